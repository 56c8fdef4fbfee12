use Rattle.std.proofs.Common.{Some, arith}
use Rattle.region.proofs.Halving.{ends}
use Rattle.region.proofs.tightening.tighten_by.Goals as goal

pub returns : goal.returns
returns g c =
    let i = c.loop-hi.invariant in
    ends (λ h. g.T.GuessTest.refuting c.args.test.now (Some h)) c.args.region.now.region c.args.g c.moved-2.result c.loop-hi.lo c.loop-hi.hi c.moved-2.ensures.value c.requires.admitted
    i.apart (omega (arith, i.apart, c.loop-hi-test.false)) i.within i.yes i.stop
