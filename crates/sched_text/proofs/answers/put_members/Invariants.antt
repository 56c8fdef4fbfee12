use Rattle.std.proofs.Common.{◌∷◌, drop}
use Rattle.std.specs.List.{flat_map}
use Rattle.sched_text.specs.Pieces.{interval_name}
use Rattle.sched_text.specs.code.Printing.{Leaves}
use Rattle.sched_text.proofs.answers.put_members.Given as goal

abbrev pub invariant-loop-x : goal.invariant-loop-x
invariant-loop-x g l = Leaves (flat_map (λ x. 32 ∷ interval_name l.model x) l.order) (flat_map (λ x. 32 ∷ interval_name l.model x) (drop l.x-index l.order)) l.initial.page l.page (g.D.Desk.state l.initial.desk) (g.D.Desk.state l.desk)
