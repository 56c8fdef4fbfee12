use Rattle.std.proofs.Common.{sym, ◌∙◌}
use Rattle.region.specs.Cells.{cells_of}
use Rattle.region.specs.Orders.{may_precede}
use Rattle.region.proofs.Truth.{all_fails, all_go_on}
use Rattle.region.proofs.look.Look.stands_first.Goals as goal

pub returns-then-not-may_precede : goal.returns-then-not-may_precede
returns-then-not-may_precede c = all_fails (may_precede (cells_of c.args.self.now.region c.args.p) c.args.x) c.args.later.now c.loop-y.y-index _ c.loop-y-test.true (sym c.may_precede.ensures ∙ c.if-not-may_precede.true) c.loop-y.invariant

pub loop-y-preserved : goal.loop-y-preserved
loop-y-preserved c = all_go_on (may_precede (cells_of c.args.self.now.region c.args.p) c.args.x) c.args.later.now c.loop-y.y-index _ c.loop-y-test.true (sym c.may_precede.ensures ∙ c.if-not-may_precede.false) c.loop-y.invariant
