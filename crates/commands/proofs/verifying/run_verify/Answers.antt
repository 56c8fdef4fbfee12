use Rattle.commands.proofs.Ending.{verified, verify_stopped}
use Rattle.commands.proofs.verifying.run_verify.Goals as goal
use Rattle.command_line.specs.Commands.{Verify}
use Rattle.commands.proofs.Within.{stopped_within}

pub returns-in-Ok-clause-promise : goal.returns-in-Ok-clause-promise
returns-in-Ok-clause-promise g c = verified c.args.model.now c.args.schedule.now c.in-Ok.ended (g.D.Desk.state c.args.desk.now) (g.D.Desk.state c.verify_file.new.desk) c.in-Ok.ensures.tries

pub returns-in-Err-clause-promise : goal.returns-in-Err-clause-promise
returns-in-Err-clause-promise g c = verify_stopped c.args.model.now c.args.schedule.now c.in-Err.stop c.end_stopped.result (g.D.Desk.state c.args.desk.now) (g.D.Desk.state c.verify_file.new.desk) (g.D.Desk.state c.end_stopped.new.desk)
    c.in-Err.ensures.tries c.end_stopped.ensures

pub returns-in-Err-clause-within : goal.returns-in-Err-clause-within
returns-in-Err-clause-within g c = stopped_within (Verify c.args.model.now c.args.schedule.now) c.in-Err.stop c.end_stopped.result (g.D.Desk.state c.args.desk.now) (g.D.Desk.state c.verify_file.new.desk) (g.D.Desk.state c.end_stopped.new.desk) (c.in-Err.ensures.model, c.in-Err.ensures.schedule) c.end_stopped.ensures
