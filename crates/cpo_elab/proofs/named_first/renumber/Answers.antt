use Rattle.std.proofs.Common.{◌≡◌, ℕ, ◌<◌, map, length, slice_index, refl, subst, ◌∙◌}
use Rattle.sched_model.specs.code.Model.{data_of}
use Rattle.cpo_elab.specs.NamedFirst.{is_named_sequence, is_named_cumul, new_place, renumbered}
use Rattle.cpo_elab.proofs.named.Tables.{put_together}
use Rattle.cpo_elab.proofs.named_first.renumber.Goals as goal

pub returns : goal.returns
returns c =
    let seqs = c.in_ok-sequences.sequences in
    let cums = c.in_ok-cumuls.cumuls in
    put_together (data_of c.args.parts.now) c.args.parts.now seqs cums c.part.new.items c.part-2.new.items c.renumber_all.new.constraints refl c.requires
    (subst (λ xs. (i : ℕ) → i < length xs → slice_index seqs i ≡ new_place is_named_sequence xs i) c.as_slice.ensures c.in_ok-sequences.ensures)
    (subst (λ xs. (i : ℕ) → i < length xs → slice_index cums i ≡ new_place is_named_cumul xs i) c.as_slice-2.ensures c.in_ok-cumuls.ensures)
    c.in_ok-part.ensures c.in_ok-part-2.ensures
    (c.in_ok-renumber_all.ensures ∙ (λ i. map (renumbered (slice_index (c.as_slice-3.ensures i)) (slice_index (c.as_slice-4.ensures i))) c.args.parts.now.constraints))
