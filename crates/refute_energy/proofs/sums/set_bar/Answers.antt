use Rattle.std.proofs.Common.{rules}
use Rattle.refute_energy.specs.Energy.{bar_at}
use Rattle.refute_energy.proofs.Gathering.{gathered_more}
use Rattle.refute_energy.proofs.sums.set_bar.Goals as goal

pub loop-n-preserved : goal.loop-n-preserved
loop-n-preserved c =
    gathered_more (bar_at c.args.look.now.region c.args.parts.now) c.args.first c.args.rest.now c.loop-n.n-index c.loop-n.whole c.bar_at.result c.joined-whole.result
    c.loop-n-test.true (search rules) c.bar_at.ensures.near c.joined-whole.ensures.est c.joined-whole.ensures.lct c.joined-whole.ensures.energy c.loop-n.invariant
