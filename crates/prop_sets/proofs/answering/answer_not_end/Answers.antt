use Rattle.std.proofs.Common.{◌∙◌, true, ap, length, List, ℕ}
use Rattle.prop_sets.specs.code.Busy.{ids_of}
use Rattle.prop_sets.proofs.Answered.{not_end_by, itself}
use Rattle.prop_sets.proofs.answering.answer_not_end.Goals as goal

pub answer_reaching-requires-clause-busy : goal.answer_reaching-requires-clause-busy
answer_reaching-requires-clause-busy c =
    let ids : List ℕ → List ℕ = λ l. ids_of c.args.members.now l (length c.args.view.now.model.now.intervals) in
    not_end_by _ _ _ _ _ (length c.args.view.now.model.now.intervals) _ _ _ c.args.members.now c.args.found.now.set.items _ c.member_at-i.ensures c.side_of.ensures
    (c.in_ok-s.ensures ∙ ap ids c.deref.ensures.value) c.requires.busy

pub returns-clause-busy : goal.returns-clause-busy
returns-clause-busy c = c.answer_reaching.ensures.busy true (itself c.args.c)
