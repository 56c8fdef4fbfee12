use Rattle.std.proofs.Common.{drop}
use Rattle.std.specs.List.{flat_map}
use Rattle.sched_text.specs.Canonical.{statement, constraint_text}
use Rattle.sched_text.specs.code.Printing.{Leaves}
use Rattle.sched_text.proofs.canonical.put_constraints.Given as goal

abbrev pub invariant-loop-c : goal.invariant-loop-c
invariant-loop-c g l = Leaves (flat_map (λ x. statement (constraint_text l.model x)) l.all) (flat_map (λ x. statement (constraint_text l.model x)) (drop l.c-index l.all)) l.initial.page l.page (g.D.Desk.state l.initial.desk) (g.D.Desk.state l.desk)
