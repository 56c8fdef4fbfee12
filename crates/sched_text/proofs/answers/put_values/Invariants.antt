use Rattle.std.proofs.Common.{codes, map, drop}
use Rattle.std.specs.Fmt.{signed_decimal}
use Rattle.sched_model.specs.Rank.{unranked_in}
use Rattle.sched_text.specs.Answers.{values_word}
use Rattle.sched_text.specs.code.Printing.{Leaves}
use Rattle.sched_text.proofs.Lists.{from_here}
use Rattle.sched_text.proofs.answers.put_values.Given as goal

abbrev pub invariant-loop-i : goal.invariant-loop-i
invariant-loop-i g l = Leaves (values_word l.model l.v) (from_here l.is_first (codes ",") (map signed_decimal (drop l.i (unranked_in l.model l.v)))) l.initial.page l.page (g.D.Desk.state l.initial.desk) (g.D.Desk.state l.desk)
