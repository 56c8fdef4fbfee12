use Rattle.restart_rules.specs.Restarts.{limits_of}
use Rattle.commands.specs.Runs.Source.{file}
use Rattle.commands.proofs.Ending.{solved, solve_stopped}
use Rattle.commands.proofs.solving.run_solve.Goals as goal
use Rattle.command_line.specs.Commands.{Solve}
use Rattle.commands.proofs.Within.{stopped_within}

pub returns-in-Ok-clause-promise : goal.returns-in-Ok-clause-promise
returns-in-Ok-clause-promise g c = solved (file c.args.model.now) c.args.log.now (limits_of c.args.nodes c.args.restarts) c.in-Ok.ended (g.D.Desk.state c.args.desk.now) (g.D.Desk.state c.solve_file.new.desk) c.in-Ok.ensures.tries

pub returns-in-Err-clause-promise : goal.returns-in-Err-clause-promise
returns-in-Err-clause-promise g c = solve_stopped (file c.args.model.now) c.args.log.now (limits_of c.args.nodes c.args.restarts) c.in-Err.stop c.end_stopped.result (g.D.Desk.state c.args.desk.now) (g.D.Desk.state c.solve_file.new.desk) (g.D.Desk.state c.end_stopped.new.desk)
    (λ r due. tt) c.in-Err.ensures.tries c.end_stopped.ensures

pub returns-in-Err-clause-within : goal.returns-in-Err-clause-within
returns-in-Err-clause-within g c = stopped_within (Solve c.args.model.now c.args.log.now c.args.nodes c.args.restarts) c.in-Err.stop c.end_stopped.result (g.D.Desk.state c.args.desk.now) (g.D.Desk.state c.solve_file.new.desk) (g.D.Desk.state c.end_stopped.new.desk) c.in-Err.ensures.within c.end_stopped.ensures
