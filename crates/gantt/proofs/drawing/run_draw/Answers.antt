use Rattle.given_files.specs.laws.Within.{both_told}
use Rattle.gantt.specs.code.Ended.{ending_of_stop}
use Rattle.gantt.proofs.Drawn.{drawn, stopped}
use Rattle.gantt.proofs.drawing.run_draw.Goals as goal

pub returns-in-Ok : goal.returns-in-Ok
returns-in-Ok g c =
    drawn c.args.model.now c.args.schedule.now c.in-Ok.field-0 (g.D.Desk.state c.args.desk.now) (g.D.Desk.state c.draw_file.new.desk) c.in-Ok.ensures.tries (c.in-Ok.ensures.model, c.in-Ok.ensures.schedule)

pub returns-in-Err : goal.returns-in-Err
returns-in-Err g c =
    let before = g.D.Desk.state c.args.desk.now in
    let drawn = g.D.Desk.state c.draw_file.new.desk in
    let after = g.D.Desk.state c.end_stopped.new.desk in
    stopped c.args.model.now c.args.schedule.now c.in-Err.stop c.end_stopped.result before drawn after
    (both_told ending_of_stop c.in-Err.stop c.end_stopped.result c.args.model.now c.args.schedule.now before drawn after c.end_stopped.ensures (c.in-Err.ensures.model, c.in-Err.ensures.schedule)) c.in-Err.ensures.tries c.end_stopped.ensures
