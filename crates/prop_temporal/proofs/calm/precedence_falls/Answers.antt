use Rattle.std.proofs.Common.{sym, ◌∙◌}
use Rattle.prop_temporal.specs.code.Heights.{height_in}
use Rattle.prop_temporal.specs.laws.Falling.{falls_precedence}
use Rattle.prop_temporal.proofs.calm.precedence_falls.Goals as goal

pub returns : goal.returns
returns c = λ yes. falls_precedence c.args.model.now c.args.look.now.region (height_in c.args.heights.now) c.args.u (sym c.keeps_precedence.ensures ∙ yes)
