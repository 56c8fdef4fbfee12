use Rattle.std.proofs.Common.{not, sym, ap, ◌∙◌}
use Rattle.std.specs.List.{list_all}
use Rattle.sched_model.specs.Sequence.{stands_before}
use Rattle.sched_model.proofs.walks.Orders.{none_behind_last}
use Rattle.sched_model.proofs.sequence.none_behind.Goals as goal

pub returns-in-Some : goal.returns-in-Some
returns-in-Some c = ap not c.has.ensures ∙ none_behind_last c.in-Some.front.now c.in-Some.field-0-0.now c.args.x ∙ ap (λ ys. list_all (λ y. not (stands_before ys c.args.x y)) ys) (sym c.in-Some.ensures.cases.0)
