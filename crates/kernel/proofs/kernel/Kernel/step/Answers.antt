use Rattle.kernel.specs.Refuting.{refutes_with}
use Rattle.kernel.proofs.Readies.{gives_keeps}
use Rattle.kernel.proofs.Sounds.{sound_in}
use Rattle.kernel.proofs.kernel.Kernel.step.Goals as goal

pub returns-clause-ready : goal.returns-clause-ready
returns-clause-ready g c = gives_keeps c.args.model.now (refutes_with g.X.Refuter.refuting) _ c.args.self.now _ c.args.line
    (sound_in g.X.Refuter.named c.args.model.now g.X.Refuter.refuting (g.met.X.Refuter.sound c.args.model.now)) c.plain_step.ensures.step c.requires.ready
