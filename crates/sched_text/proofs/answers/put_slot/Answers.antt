use Rattle.std.proofs.Common.{◌∷◌, rules, ap, sym, SFits, w64}
use Rattle.std.proofs.lemmas.Int.{to_z-of_z}
use Rattle.textline.specs.Lines.{line}
use Rattle.sched_text.specs.Answers.{slot_words}
use Rattle.sched_text.proofs.Printing.{both, «as»}
use Rattle.sched_text.proofs.answers.put_slot.Goals as goal

pub returns-in-Present : goal.returns-in-Present
returns-in-Present g c =
    let fits_s : SFits w64 c.in-Present.s = search rules in
    let fits_e : SFits w64 c.in-Present.e = search rules in
    «as» (both (rw c.as_slice.ensures at c.put_text.ensures) (both c.put_text-in-Present.ensures (simp to_z-of_z at c.put_moments.ensures)))
    (ap (λ v. line (c.args.d.now.name ∷ slot_words v)) (sym c.in-Present.is))
