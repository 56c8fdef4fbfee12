use Rattle.std.proofs.Common.{◌+◌}
use Rattle.solver.proofs.kept.Keeping.{counted_ready}
use Rattle.solver.proofs.state.Search.close.Goals as goal

pub returns-in-Split-clause-ready : goal.returns-in-Split-clause-ready
returns-in-Split-clause-ready g c = λ more. c.in_ok-split-in-Split.ensures.ready c.args.model.now (counted_ready g.P.Propagator c.args.model.now c.args.self.now (c.args.self.now.nodes + 1) c.requires.ready) (c.requires.spent c.in-Split.g c.in-Split.is)
