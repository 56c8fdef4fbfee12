use Rattle.engine.proofs.Waking.{calm_after}
use Rattle.engine.proofs.engine.Engine.wake.Goals as goal

pub returns-clause-calm : goal.returns-clause-calm
returns-clause-calm g c m r q best made of also same calm =
    c.note_change.ensures.calm m q best (calm_after g.P.Propagator g.met.P.Propagator.unwatched c.args.cell c.args.self.now c.plain_wake.new.self c.plain_wake.ensures.wakes m r q best made of also same calm)
