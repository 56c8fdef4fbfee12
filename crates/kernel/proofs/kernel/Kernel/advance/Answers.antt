use Rattle.kernel.specs.Refuting.{refutes_with}
use Rattle.kernel.proofs.Stepped.{steps_pass, advanced}
use Rattle.kernel.proofs.Readies.{advance_keeps}
use Rattle.kernel.proofs.Sounds.{sound_in}
use Rattle.kernel.proofs.kernel.Kernel.advance.Goals as goal

pub take-requires : goal.take-requires
take-requires g c = record {
  nodes = c.requires.nodes;
  passed = steps_pass (refutes_with g.X.Refuter.refuting) c.args.model.now c.args.self.now c.args.line c.requires.steps;
}

pub returns-clause-ok : goal.returns-clause-ok
returns-clause-ok g c = advanced (refutes_with g.X.Refuter.refuting) c.args.model.now c.take.result c.args.self.now c.take.new.self c.args.line c.requires.steps c.take.ensures.ok

pub returns-clause-ready : goal.returns-clause-ready
returns-clause-ready g c = advance_keeps c.args.model.now (refutes_with g.X.Refuter.refuting) c.take.result c.args.self.now c.take.new.self c.args.line
    (sound_in g.X.Refuter.named c.args.model.now g.X.Refuter.refuting (g.met.X.Refuter.sound c.args.model.now))
    (advanced (refutes_with g.X.Refuter.refuting) c.args.model.now c.take.result c.args.self.now c.take.new.self c.args.line c.requires.steps c.take.ensures.ok)
    c.take.ensures.err c.requires.ready
