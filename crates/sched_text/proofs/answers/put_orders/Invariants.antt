use Rattle.std.proofs.Common.{drop}
use Rattle.sched_text.specs.Pieces.{at_places}
use Rattle.sched_text.specs.Answers.{order_line}
use Rattle.sched_text.specs.code.Printing.{Leaves}
use Rattle.sched_text.proofs.answers.put_orders.Given as goal

abbrev pub invariant-loop-i : goal.invariant-loop-i
invariant-loop-i g l = Leaves (at_places (order_line l.model) 0 l.defs l.orders) (at_places (order_line l.model) l.i (drop l.i l.defs) (drop l.i l.orders)) l.initial.page l.page (g.D.Desk.state l.initial.desk) (g.D.Desk.state l.desk)
