use Rattle.std.proofs.Common.{codes, map, drop}
use Rattle.sched_text.specs.Pieces.{between, commas}
use Rattle.sched_text.specs.Shown.{shown, wholes, operands, terms}
use Rattle.sched_text.proofs.Lists.{from_here}
use Rattle.sched_text.proofs.Terms.{terms_from}
use Rattle.sched_text.specs.code.Printing.{Leaves}
use Rattle.sched_text.proofs.expressions.+put_whole.Given as goal

abbrev pub invariant-put_operands-loop-x : goal.invariant-put_operands-loop-x
invariant-put_operands-loop-x g l = Leaves (between l.sign (operands (map (shown l.model) l.xs))) (from_here l.is_first l.sign (map (λ x. (shown l.model x).operand) (drop l.x-index l.xs))) l.initial.page l.page (g.D.Desk.state l.initial.desk) (g.D.Desk.state l.desk)

abbrev pub invariant-put_items-loop-x : goal.invariant-put_items-loop-x
invariant-put_items-loop-x g l = Leaves (commas (wholes (map (shown l.model) l.xs))) (from_here l.is_first (codes ",") (map (λ x. (shown l.model x).whole) (drop l.x-index l.xs))) l.initial.page l.page (g.D.Desk.state l.initial.desk) (g.D.Desk.state l.desk)

abbrev pub invariant-put_terms-loop-x : goal.invariant-put_terms-loop-x
invariant-put_terms-loop-x g l = Leaves (terms (map (shown l.model) l.xs)) (terms_from l.is_first (map (shown l.model) (drop l.x-index l.xs))) l.initial.page l.page (g.D.Desk.state l.initial.desk) (g.D.Desk.state l.desk)
