use Rattle.reasons.proofs.Told.{tested_right, tested_stopped}
use Rattle.reasons.proofs.explaining.tested.Goals as goal

pub returns-in-Ok-clause-tested : goal.returns-in-Ok-clause-tested
returns-in-Ok-clause-tested g c =
    tested_right c.args.model.now c.args.text.now c.args.schedule.now c.in-Ok.a c.of_right.result (g.D.Desk.state c.args.desk.now) (g.D.Desk.state c.test_file.new.desk) c.in-Ok.ensures.tests c.of_right.ensures

pub returns-in-Err-clause-tested : goal.returns-in-Err-clause-tested
returns-in-Err-clause-tested g c =
    tested_stopped c.args.model.now c.args.text.now c.args.schedule.now c.in-Err.stop c.of_stop.result (g.D.Desk.state c.args.desk.now) (g.D.Desk.state c.test_file.new.desk) c.in-Err.ensures.tests c.of_stop.ensures
