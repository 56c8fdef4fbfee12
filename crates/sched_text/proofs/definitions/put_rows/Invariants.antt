use Rattle.std.proofs.Common.{codes}
use Rattle.sched_text.specs.Pieces.{commas}
use Rattle.sched_text.specs.Canonical.{rows}
use Rattle.sched_text.proofs.Lists.{from_here}
use Rattle.sched_text.specs.code.Printing.{Leaves}
use Rattle.sched_text.proofs.definitions.put_rows.Given as goal

abbrev pub invariant-loop-left : goal.invariant-loop-left
invariant-loop-left g l = Leaves (commas (rows l.n l.n l.cells)) (from_here l.is_first (codes ",") (rows l.left l.n l.rest)) l.initial.page l.page (g.D.Desk.state l.initial.desk) (g.D.Desk.state l.desk)

abbrev pub decreases-loop-left : goal.decreases-loop-left
decreases-loop-left g l = l.left
