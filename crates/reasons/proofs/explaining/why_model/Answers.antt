use Rattle.std.proofs.Common.{None}
use Rattle.reasons.proofs.Told.{told, stopped, within_told}
use Rattle.reasons.proofs.explaining.why_model.Goals as goal

pub returns-in-Ok : goal.returns-in-Ok
returns-in-Ok g c = told c.args.model.now None c.in-Ok.ended (g.D.Desk.state c.args.desk.now) (g.D.Desk.state c.explain_alone.new.desk) c.in-Ok.ensures.tries c.in-Ok.ensures.within

pub returns-in-Err : goal.returns-in-Err
returns-in-Err g c =
    let before = g.D.Desk.state c.args.desk.now in
    let read = g.D.Desk.state c.explain_alone.new.desk in
    let after = g.D.Desk.state c.end_stopped.new.desk in
    stopped c.args.model.now None c.in-Err.stop c.end_stopped.result before read after
    (within_told c.args.model.now None c.in-Err.stop c.end_stopped.result before read after c.in-Err.ensures.within c.end_stopped.ensures) c.in-Err.ensures.tries c.end_stopped.ensures
