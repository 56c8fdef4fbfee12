use Rattle.kernel.proofs.Readies.{new_ready}
use Rattle.kernel.proofs.kernel.Kernel.new.Goals as goal

pub returns-clause-ready : goal.returns-clause-ready
returns-clause-ready g c = new_ready c.args.model.now c.plain_new.result c.plain_new.ensures.state c.plain_new.ensures.valid
