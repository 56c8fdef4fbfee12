use Rattle.solver.specs.declared.fault.SolveFault.TheVariants.{NoMemory}
use Rattle.restart_rules.specs.Restarts.{limits_of}
use Rattle.solver.proofs.logged.Whole.{begun, stops_solve}
use Rattle.solver.proofs.solving.solve.Goals as goal

pub returns-in_err-engine : goal.returns-in_err-engine
returns-in_err-engine g c =
    let start = g.D.Desk.state c.args.desk.now in
    stops_solve c.args.model.now (limits_of c.args.nodes c.args.restarts) c.from_residual-in_err-engine.result NoMemory start start c.from_residual-in_err-engine.ensures.1 (begun c.args.model.now (limits_of c.args.nodes c.args.restarts) start, tt)

pub returns-in_err-hints : goal.returns-in_err-hints
returns-in_err-hints g c =
    let start = g.D.Desk.state c.args.desk.now in
    stops_solve c.args.model.now (limits_of c.args.nodes c.args.restarts) c.from_residual.result NoMemory start start c.from_residual.ensures.1 (begun c.args.model.now (limits_of c.args.nodes c.args.restarts) start, tt)

pub solve_with-requires-clause-covers : goal.solve_with-requires-clause-covers
solve_with-requires-clause-covers g c = λ r best of quiet. c.covers.ensures c.args.model.now r best c.intervals.ensures.valid of quiet
