use Rattle.std.proofs.Common.{rules}
use Rattle.kernel.specs.Refuting.{refutes_with}
use Rattle.kernel.specs.Agenda.{first_in}
use Rattle.kernel.proofs.Stepped.{gives_fault, gives_ok, gives_no_memory, known_fault}
use Rattle.kernel.proofs.kernel.Kernel.plain_step.Goals as goal

pub returns-in-Some-clause-step : goal.returns-in-Some-clause-step
returns-in-Some-clause-step g c = gives_fault (refutes_with g.X.Refuter.refuting) c.args.model.now c.args.self.now c.args.line c.in-Some.fault c.in-Some.ensures

pub returns-in-Some-clause-memory : goal.returns-in-Some-clause-memory
returns-in-Some-clause-memory g c = λ _ same. known_fault (refutes_with g.X.Refuter.refuting) c.args.model.now (first_in c.args.self.now.current c.args.self.now.waiting) c.args.self.now.found c.args.line c.in-Some.fault c.in-Some.ensures same

pub returns-then-is_err-clause-step : goal.returns-then-is_err-clause-step
returns-then-is_err-clause-step g c = gives_no_memory (refutes_with g.X.Refuter.refuting) c.args.model.now c.args.self.now c.take.new.self c.args.line (search rules) (search rules)

pub returns-clause-step : goal.returns-clause-step
returns-clause-step g c = gives_ok (refutes_with g.X.Refuter.refuting) c.args.model.now c.args.self.now c.take.new.self c.args.line (search rules) (search rules)
