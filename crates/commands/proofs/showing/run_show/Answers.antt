use Rattle.commands.proofs.Ending.{shown, show_stopped}
use Rattle.commands.proofs.showing.run_show.Goals as goal
use Rattle.command_line.specs.Commands.{Show}
use Rattle.commands.proofs.Within.{stopped_within}

pub returns-in-Ok-clause-promise : goal.returns-in-Ok-clause-promise
returns-in-Ok-clause-promise g c = shown c.args.model.now c.in-Ok.ended (g.D.Desk.state c.args.desk.now) (g.D.Desk.state c.show_file.new.desk) c.in-Ok.ensures.tries

pub returns-in-Err-clause-promise : goal.returns-in-Err-clause-promise
returns-in-Err-clause-promise g c = show_stopped c.args.model.now c.in-Err.stop c.end_stopped.result (g.D.Desk.state c.args.desk.now) (g.D.Desk.state c.show_file.new.desk) (g.D.Desk.state c.end_stopped.new.desk)
    c.in-Err.ensures.tries c.end_stopped.ensures

pub returns-in-Err-clause-within : goal.returns-in-Err-clause-within
returns-in-Err-clause-within g c = stopped_within (Show c.args.model.now) c.in-Err.stop c.end_stopped.result (g.D.Desk.state c.args.desk.now) (g.D.Desk.state c.show_file.new.desk) (g.D.Desk.state c.end_stopped.new.desk) c.in-Err.ensures.within c.end_stopped.ensures
