use Rattle.std.proofs.Common.{arith}
use Rattle.prop_unary.specs.code.Silence.{AreSilentWhere}
use Rattle.prop_unary.specs.code.Circles.{EachOf}
use Rattle.prop_unary.proofs.Walks.{between_more}
use Rattle.prop_unary.proofs.pairs.ask_places.Goals as goal

pub loop-k-preserved : goal.loop-k-preserved
loop-k-preserved c =
    between_more (λ a. EachOf (AreSilentWhere c.args.view.now.model.now c.args.view.now.region.now.region c.args.view.now.best c.args.d.now c.args.order a) c.args.members.now) c.args.members.now c.args.from c.loop-k.k c.loop-k.invariant c.in_default.ensures.none

pub returns-clause-none : goal.returns-clause-none
returns-clause-none c = λ k past below. let end = c.loop-k-test.false in c.loop-k.invariant k past (omega (arith, end, below))
