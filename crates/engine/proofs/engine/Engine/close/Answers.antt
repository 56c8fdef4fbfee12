use Rattle.engine.proofs.Settled.{plain_finding}
use Rattle.engine.proofs.engine.Engine.close.Goals as goal

pub returns-in-Some-clause-ends : goal.returns-in-Some-clause-ends
returns-in-Some-clause-ends g c =
    plain_finding c.args.model.now c.args.region.now.region c.args.best c.in-Some.f c.requires.settled (rw c.in-Some.is at c.in_ok-find.ensures.some)
