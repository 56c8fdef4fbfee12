use Rattle.std.proofs.Common.{codes, map, drop}
use Rattle.std.specs.Fmt.{signed_decimal}
use Rattle.sched_text.specs.Pieces.{between}
use Rattle.sched_text.proofs.Lists.{from_here}
use Rattle.sched_text.specs.code.Printing.{Leaves}
use Rattle.sched_text.proofs.definitions.put_numbers.Given as goal

abbrev pub invariant-loop-n : goal.invariant-loop-n
invariant-loop-n g l = Leaves (between (codes ",") (map signed_decimal l.numbers)) (from_here l.is_first (codes ",") (map signed_decimal (drop l.n-index l.numbers))) l.initial.page l.page (g.D.Desk.state l.initial.desk) (g.D.Desk.state l.desk)
