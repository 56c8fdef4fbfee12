use Rattle.last_plan.proofs.Ending.{ended, stopped}
use Rattle.last_plan.proofs.Within.{both_stopped}
use Rattle.last_plan.proofs.planning.run_plan.Goals as goal

pub returns-in-Ok : goal.returns-in-Ok
returns-in-Ok g c = ended c.args.is_count c.args.model.now c.args.log.now c.in-Ok.ended (g.D.Desk.state c.args.desk.now) (g.D.Desk.state c.tell_plan.new.desk) c.in-Ok.ensures.tries (c.in-Ok.ensures.model, c.in-Ok.ensures.log)

pub returns-in-Err : goal.returns-in-Err
returns-in-Err g c =
    let before = g.D.Desk.state c.args.desk.now in
    let read = g.D.Desk.state c.tell_plan.new.desk in
    let after = g.D.Desk.state c.end_stopped.new.desk in
    stopped c.args.is_count c.args.model.now c.args.log.now c.in-Err.stop c.end_stopped.result before read after
    (both_stopped c.args.model.now c.args.log.now c.in-Err.stop c.end_stopped.result before read after c.end_stopped.ensures (c.in-Err.ensures.model, c.in-Err.ensures.log)) c.in-Err.ensures.tries c.end_stopped.ensures
