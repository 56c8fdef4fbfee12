use Rattle.std.proofs.Common.{rules}
use Rattle.engine.proofs.Leading.{broke_none, on_err}
use Rattle.engine.proofs.Settled.{unsettled}
use Rattle.engine.proofs.engine.Engine.turn.Goals as goal

pub returns-in_err-f-clause-broke : goal.returns-in_err-f-clause-broke
returns-in_err-f-clause-broke g c = on_err _ _ (broke_none g.L.Lines g.met.L.Lines.none c.args.model.now c.args.best c.args.lines.now c.args.region.now.region)

pub returns-clause-learnt : goal.returns-clause-learnt
returns-clause-learnt g c = (unsettled c.args.region.now.region c.in-Some-guess.g (search rules), c.in_ok-learn.ensures.learnt)
