use Rattle.std.proofs.Common.{◌≡◌, ◌∙◌, true, sym, ap, subst, length, List, ℕ}
use Rattle.refute_seq.specs.declared.witness.SeqWitness.{SeqWitness}
use Rattle.prop_sets.specs.code.Busy.{IsBusy, ids_of}
use Rattle.prop_sets.specs.code.Tasks.{looks_after}
use Rattle.prop_sets.proofs.Answered.{edge_by, itself}
use Rattle.prop_sets.proofs.answering.answer_edge.Goals as goal

pub answer_reaching-requires-clause-busy : goal.answer_reaching-requires-clause-busy
answer_reaching-requires-clause-busy c =
    let ids : List ℕ → List ℕ = λ l. ids_of c.args.members.now l (length c.args.view.now.model.now.intervals) in
    subst (λ (w : SeqWitness). IsBusy c.args.view.now.model.now c.args.view.now.region.now.region c.args.view.now.best c.member_at-i.result w) (sym c.in_ok-w.ensures)
    (edge_by _ _ _ _ _ (length c.args.view.now.model.now.intervals) _ _ _ c.args.members.now c.args.found.now.s.items c.args.found.now.u.items c.args.found.now.v.items _ _ _ c.member_at-i.ensures c.side_of.ensures
    (c.in_ok-s.ensures ∙ ap ids c.deref.ensures.value) (c.in_ok-u.ensures ∙ ap ids c.deref-2.ensures.value) (c.in_ok-v.ensures ∙ ap ids c.deref-3.ensures.value) c.requires.busy)

pub returns-clause-busy : goal.returns-clause-busy
returns-clause-busy c = c.answer_reaching.ensures.busy true (subst (λ (w : SeqWitness). looks_after true c.args.view.now.model.now c.args.c w ≡ true) (sym c.in_ok-w.ensures) (itself c.args.c))
