use Rattle.std.proofs.Common.{◌∙◌, ap}
use Rattle.commands.specs.VerifyText.{valid_text}
use Rattle.commands.proofs.Valued.{values_are}
use Rattle.commands.proofs.Verified.{verify_printed, verify_half_printed}
use Rattle.commands.proofs.verifying.verify_file.Goals as goal
use Rattle.given_files.specs.laws.Within.{model_tested, model_written, schedule_tested, schedule_written}

pub returns-in-Ok-write-clause-tries : goal.returns-in-Ok-write-clause-tries
returns-in-Ok-write-clause-tries g c =
    verify_printed c.in_ok-model.model c.args.name.now c.args.schedule.now c.as_slice.result.now c.in-Ok.a _
    (g.D.Desk.state c.args.desk.now) (g.D.Desk.state c.read_file.new.desk) (g.D.Desk.state c.test_file.new.desk) (g.D.Desk.state c.write.new.self)
    c.in_ok-model.ensures.only c.in_ok-model.ensures.reads.0 c.in_ok-model.ensures.reads.1 c.in_ok-model.ensures.reads.2 c.in-Ok.ensures.only c.in-Ok.ensures.tests (c.as_slice.ensures.value ∙ c.in_ok-text.ensures ∙ ap valid_text (values_are c.in_ok-model.model c.in-Ok.a c.value-value.result c.intervals.ensures.valid c.in-Ok.ensures.tests.2.domain c.value-value.ensures)) c.in-Ok-write.ensures

pub returns-clause-tries : goal.returns-clause-tries
returns-clause-tries g c =
    verify_half_printed c.in_ok-model.model c.args.name.now c.args.schedule.now c.as_slice.result.now c.in-Ok.a _
    (g.D.Desk.state c.args.desk.now) (g.D.Desk.state c.read_file.new.desk) (g.D.Desk.state c.test_file.new.desk) (g.D.Desk.state c.write.new.self)
    c.in_ok-model.ensures.only c.in_ok-model.ensures.reads.0 c.in_ok-model.ensures.reads.1 c.in-Ok.ensures.only c.in-Ok.ensures.tests (c.as_slice.ensures.value ∙ c.in_ok-text.ensures ∙ ap valid_text (values_are c.in_ok-model.model c.in-Ok.a c.value-value.result c.intervals.ensures.valid c.in-Ok.ensures.tests.2.domain c.value-value.ensures)) c.in-Err-write.ensures

pub returns-in-Err-clause-model : goal.returns-in-Err-clause-model
returns-in-Err-clause-model g c = model_tested c.args.name.now (g.D.Desk.state c.args.desk.now) (g.D.Desk.state c.read_file.new.desk) (g.D.Desk.state c.test_file.new.desk) c.in_ok-model.ensures.within c.in-Err.ensures.only

pub returns-in-Err-clause-schedule : goal.returns-in-Err-clause-schedule
returns-in-Err-clause-schedule g c = schedule_tested c.args.schedule.now (g.D.Desk.state c.args.desk.now) (g.D.Desk.state c.read_file.new.desk) (g.D.Desk.state c.test_file.new.desk) c.in_ok-model.ensures.only c.in-Err.ensures.within

pub returns-in-Ok-write-clause-model : goal.returns-in-Ok-write-clause-model
returns-in-Ok-write-clause-model g c =
    model_written c.args.name.now _ _ (g.D.Desk.state c.args.desk.now) (g.D.Desk.state c.test_file.new.desk) (g.D.Desk.state c.write.new.self)
    (model_tested c.args.name.now (g.D.Desk.state c.args.desk.now) (g.D.Desk.state c.read_file.new.desk) (g.D.Desk.state c.test_file.new.desk) c.in_ok-model.ensures.within c.in-Ok.ensures.only) c.in-Ok-write.ensures

pub returns-in-Ok-write-clause-schedule : goal.returns-in-Ok-write-clause-schedule
returns-in-Ok-write-clause-schedule g c =
    schedule_written c.args.schedule.now _ _ (g.D.Desk.state c.args.desk.now) (g.D.Desk.state c.test_file.new.desk) (g.D.Desk.state c.write.new.self)
    (schedule_tested c.args.schedule.now (g.D.Desk.state c.args.desk.now) (g.D.Desk.state c.read_file.new.desk) (g.D.Desk.state c.test_file.new.desk) c.in_ok-model.ensures.only c.in-Ok.ensures.within) c.in-Ok-write.ensures

pub returns-clause-model : goal.returns-clause-model
returns-clause-model g c =
    model_written c.args.name.now _ _ (g.D.Desk.state c.args.desk.now) (g.D.Desk.state c.test_file.new.desk) (g.D.Desk.state c.write.new.self)
    (model_tested c.args.name.now (g.D.Desk.state c.args.desk.now) (g.D.Desk.state c.read_file.new.desk) (g.D.Desk.state c.test_file.new.desk) c.in_ok-model.ensures.within c.in-Ok.ensures.only) c.in-Err-write.ensures

pub returns-clause-schedule : goal.returns-clause-schedule
returns-clause-schedule g c =
    schedule_written c.args.schedule.now _ _ (g.D.Desk.state c.args.desk.now) (g.D.Desk.state c.test_file.new.desk) (g.D.Desk.state c.write.new.self)
    (schedule_tested c.args.schedule.now (g.D.Desk.state c.args.desk.now) (g.D.Desk.state c.read_file.new.desk) (g.D.Desk.state c.test_file.new.desk) c.in_ok-model.ensures.only c.in-Ok.ensures.within) c.in-Err-write.ensures
