use Rattle.std.proofs.Common.{Some, arith, ap, ◌∙◌}
use Rattle.region.proofs.Halving.{weaker_some}
use Rattle.region.proofs.tightening.weaker.Goals as goal

pub returns-clause-value : goal.returns-clause-value
returns-clause-value c = ap Some c.moved.ensures.value ∙ weaker_some c.args.region.now.region c.args.g c.requires (omega (arith, c.if-steps-le1.false, c.steps.ensures))
