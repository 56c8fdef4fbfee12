use Rattle.std.proofs.Common.{codes, map, drop}
use Rattle.sched_text.specs.Pieces.{commas, interval_name}
use Rattle.sched_text.specs.code.Printing.{Leaves}
use Rattle.sched_text.proofs.Lists.{from_here}
use Rattle.sched_text.proofs.pieces.put_items.Given as goal

abbrev pub invariant-loop-x : goal.invariant-loop-x
invariant-loop-x g l = Leaves (commas (map (interval_name l.model) l.xs)) (from_here l.is_first (codes ",") (map (interval_name l.model) (drop l.x-index l.xs))) l.initial.page l.page (g.D.Desk.state l.initial.desk) (g.D.Desk.state l.desk)
