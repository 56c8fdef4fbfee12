use Rattle.std.proofs.Common.{drop}
use Rattle.sched_text.specs.Pieces.{at_places}
use Rattle.sched_text.specs.Answers.{segments_line}
use Rattle.sched_text.specs.code.Printing.{Leaves}
use Rattle.sched_text.proofs.answers.put_states.Given as goal

abbrev pub invariant-loop-i : goal.invariant-loop-i
invariant-loop-i g l = Leaves (at_places segments_line 0 l.defs l.segs) (at_places segments_line l.i (drop l.i l.defs) (drop l.i l.segs)) l.initial.page l.page (g.D.Desk.state l.initial.desk) (g.D.Desk.state l.desk)
