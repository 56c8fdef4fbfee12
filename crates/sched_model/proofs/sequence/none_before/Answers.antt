use Rattle.std.proofs.Common.{not, sym, ap, ◌∙◌}
use Rattle.std.specs.List.{list_all}
use Rattle.sched_model.specs.Sequence.{stands_before}
use Rattle.sched_model.proofs.walks.Orders.{none_before_first}
use Rattle.sched_model.proofs.sequence.none_before.Goals as goal

pub returns-in-Some : goal.returns-in-Some
returns-in-Some c = ap not c.has.ensures ∙ none_before_first c.in-Some.field-0-0.now c.in-Some.rest.now c.args.x ∙ ap (λ ys. list_all (λ y. not (stands_before ys y c.args.x)) ys) (sym c.in-Some.ensures.cases.0)
