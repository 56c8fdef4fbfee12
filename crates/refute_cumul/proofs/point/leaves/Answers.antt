use Rattle.std.proofs.Common.{◌∙◌, rules}
use Rattle.refute_cumul.proofs.Bounding.{leaves_above, leaves_below}
use Rattle.refute_cumul.proofs.point.leaves.Goals as goal

pub returns-then-u-eq0 : goal.returns-then-u-eq0
returns-then-u-eq0 c = leaves_above c.args.look.now.region c.args.parts.now c.args.lo c.args.hi c.args.t c.args.u c.is_over.result (search rules) (c.is_over.ensures ∙ search rules)

pub returns-then-u-eq1 : goal.returns-then-u-eq1
returns-then-u-eq1 c = leaves_below c.args.look.now.region c.args.parts.now c.args.lo c.args.hi c.args.t c.args.u c.is_over-then-u-eq1.result (search rules) (c.is_over-then-u-eq1.ensures ∙ search rules)
