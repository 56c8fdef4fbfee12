use Rattle.std.proofs.Common.{sym, subst}
use Rattle.svg_page.specs.Page.{IsPage}
use Rattle.given_files.specs.laws.Within.{model_tested, model_written, schedule_tested, schedule_written}
use Rattle.gantt.proofs.Drawn.{page_printed, page_half_printed, page_refused}
use Rattle.gantt.proofs.drawing.draw_file.Goals as goal

pub returns-in_err-page-clause-tries : goal.returns-in_err-page-clause-tries
returns-in_err-page-clause-tries g c =
    page_refused c.from_residual-in_err-page.result c.args.name.now c.args.schedule.now (g.D.Desk.state c.args.desk.now) (g.D.Desk.state c.read_file.new.desk) (g.D.Desk.state c.test_file.new.desk)
    c.from_residual-in_err-page.ensures.1 c.in_ok-model.ensures.only c.in_ok-model.ensures.reads.0 c.in_ok-a.ensures.only

pub returns-in-Ok-clause-tries : goal.returns-in-Ok-clause-tries
returns-in-Ok-clause-tries g c =
    page_printed c.in_ok-model.model c.args.name.now c.args.schedule.now c.as_slice.result.now c.in_ok-a.a _ _
    (g.D.Desk.state c.args.desk.now) (g.D.Desk.state c.read_file.new.desk) (g.D.Desk.state c.test_file.new.desk) (g.D.Desk.state c.write.new.self)
    c.in_ok-model.ensures.only c.in_ok-model.ensures.reads.0 c.in_ok-model.ensures.reads.1 c.in_ok-a.ensures.only c.in_ok-a.ensures.tests
    (subst (IsPage c.in_ok-model.model c.in_ok-a.a) (sym c.as_slice.ensures.value) c.in_ok-page.ensures) c.in-Ok.ensures

pub returns-clause-tries : goal.returns-clause-tries
returns-clause-tries g c =
    page_half_printed c.in_ok-model.model c.args.name.now c.args.schedule.now c.as_slice.result.now c.in_ok-a.a _
    (g.D.Desk.state c.args.desk.now) (g.D.Desk.state c.read_file.new.desk) (g.D.Desk.state c.test_file.new.desk) (g.D.Desk.state c.write.new.self)
    c.in_ok-model.ensures.only c.in_ok-model.ensures.reads.0 c.in_ok-model.ensures.reads.1 c.in_ok-a.ensures.only c.in_ok-a.ensures.tests
    (subst (IsPage c.in_ok-model.model c.in_ok-a.a) (sym c.as_slice.ensures.value) c.in_ok-page.ensures) c.in-Err.ensures

pub returns-in_err-a-clause-model : goal.returns-in_err-a-clause-model
returns-in_err-a-clause-model g c = model_tested c.args.name.now (g.D.Desk.state c.args.desk.now) (g.D.Desk.state c.read_file.new.desk) (g.D.Desk.state c.test_file.new.desk) c.in_ok-model.ensures.within c.in_err-a.ensures.only

pub returns-in_err-a-clause-schedule : goal.returns-in_err-a-clause-schedule
returns-in_err-a-clause-schedule g c = schedule_tested c.args.schedule.now (g.D.Desk.state c.args.desk.now) (g.D.Desk.state c.read_file.new.desk) (g.D.Desk.state c.test_file.new.desk) c.in_ok-model.ensures.only c.in_err-a.ensures.within

pub returns-in_err-page-clause-model : goal.returns-in_err-page-clause-model
returns-in_err-page-clause-model g c = model_tested c.args.name.now (g.D.Desk.state c.args.desk.now) (g.D.Desk.state c.read_file.new.desk) (g.D.Desk.state c.test_file.new.desk) c.in_ok-model.ensures.within c.in_ok-a.ensures.only

pub returns-in_err-page-clause-schedule : goal.returns-in_err-page-clause-schedule
returns-in_err-page-clause-schedule g c = schedule_tested c.args.schedule.now (g.D.Desk.state c.args.desk.now) (g.D.Desk.state c.read_file.new.desk) (g.D.Desk.state c.test_file.new.desk) c.in_ok-model.ensures.only c.in_ok-a.ensures.within

pub returns-in-Ok-clause-model : goal.returns-in-Ok-clause-model
returns-in-Ok-clause-model g c =
    model_written c.args.name.now _ _ (g.D.Desk.state c.args.desk.now) (g.D.Desk.state c.test_file.new.desk) (g.D.Desk.state c.write.new.self)
    (model_tested c.args.name.now (g.D.Desk.state c.args.desk.now) (g.D.Desk.state c.read_file.new.desk) (g.D.Desk.state c.test_file.new.desk) c.in_ok-model.ensures.within c.in_ok-a.ensures.only) c.in-Ok.ensures

pub returns-in-Ok-clause-schedule : goal.returns-in-Ok-clause-schedule
returns-in-Ok-clause-schedule g c =
    schedule_written c.args.schedule.now _ _ (g.D.Desk.state c.args.desk.now) (g.D.Desk.state c.test_file.new.desk) (g.D.Desk.state c.write.new.self)
    (schedule_tested c.args.schedule.now (g.D.Desk.state c.args.desk.now) (g.D.Desk.state c.read_file.new.desk) (g.D.Desk.state c.test_file.new.desk) c.in_ok-model.ensures.only c.in_ok-a.ensures.within) c.in-Ok.ensures

pub returns-clause-model : goal.returns-clause-model
returns-clause-model g c =
    model_written c.args.name.now _ _ (g.D.Desk.state c.args.desk.now) (g.D.Desk.state c.test_file.new.desk) (g.D.Desk.state c.write.new.self)
    (model_tested c.args.name.now (g.D.Desk.state c.args.desk.now) (g.D.Desk.state c.read_file.new.desk) (g.D.Desk.state c.test_file.new.desk) c.in_ok-model.ensures.within c.in_ok-a.ensures.only) c.in-Err.ensures

pub returns-clause-schedule : goal.returns-clause-schedule
returns-clause-schedule g c =
    schedule_written c.args.schedule.now _ _ (g.D.Desk.state c.args.desk.now) (g.D.Desk.state c.test_file.new.desk) (g.D.Desk.state c.write.new.self)
    (schedule_tested c.args.schedule.now (g.D.Desk.state c.args.desk.now) (g.D.Desk.state c.read_file.new.desk) (g.D.Desk.state c.test_file.new.desk) c.in_ok-model.ensures.only c.in_ok-a.ensures.within) c.in-Err.ensures
