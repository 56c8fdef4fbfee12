use Rattle.std.proofs.Common.{Ok, Err}
use Rattle.last_plan.specs.Texts.{plan_text}
use Rattle.last_plan.proofs.Told.{printed, told_short, not_told}
use Rattle.last_plan.proofs.Within.{model_replayed, model_printed, log_replayed, log_printed}
use Rattle.last_plan.proofs.planning.tell_plan.Goals as goal

pub returns-in-Err-clause-tries : goal.returns-in-Err-clause-tries
returns-in-Err-clause-tries g c =
    not_told c.args.is_count c.in_ok-model.model c.args.name.now c.args.log.now (g.D.Desk.state c.args.desk.now) (g.D.Desk.state c.read_file.new.desk) (g.D.Desk.state c.plan_file.new.desk)
    c.in_ok-model.ensures.only c.in_ok-model.ensures.reads.0 c.in_ok-model.ensures.reads.1 c.in_ok-model.ensures.reads.2 c.in-Err.ensures.only c.in-Err.stop c.in-Err.ensures.plans

pub returns-in-Ok-printed-clause-tries : goal.returns-in-Ok-printed-clause-tries
returns-in-Ok-printed-clause-tries g c =
    printed c.args.is_count c.in_ok-model.model c.args.name.now c.args.log.now (g.D.Desk.state c.args.desk.now) (g.D.Desk.state c.read_file.new.desk) (g.D.Desk.state c.plan_file.new.desk)
    c.in_ok-model.ensures.only c.in_ok-model.ensures.reads.0 c.in_ok-model.ensures.reads.1 c.in_ok-model.ensures.reads.2 c.in-Ok.ensures.only c.in-Ok.plan c.ending-ended.result _ (g.D.Desk.state c.print_plan-printed.new.desk)
    c.in-Ok.ensures.plans c.in-Ok-printed.ensures c.ending-ended.ensures

pub returns-in-Err-printed-clause-tries : goal.returns-in-Err-printed-clause-tries
returns-in-Err-printed-clause-tries g c =
    told_short c.args.is_count c.in_ok-model.model c.args.name.now c.args.log.now (g.D.Desk.state c.args.desk.now) (g.D.Desk.state c.read_file.new.desk) (g.D.Desk.state c.plan_file.new.desk)
    c.in_ok-model.ensures.only c.in_ok-model.ensures.reads.0 c.in_ok-model.ensures.reads.1 c.in_ok-model.ensures.reads.2 c.in-Ok.ensures.only c.in-Ok.plan c.in-Err-printed.stop (g.D.Desk.state c.print_plan-printed.new.desk) c.in-Ok.ensures.plans c.in-Err-printed.ensures

pub returns-in-Err-clause-model : goal.returns-in-Err-clause-model
returns-in-Err-clause-model g c = model_replayed c.args.name.now (g.D.Desk.state c.args.desk.now) (g.D.Desk.state c.read_file.new.desk) (g.D.Desk.state c.plan_file.new.desk) c.in_ok-model.ensures.within c.in-Err.ensures.only

pub returns-in-Err-clause-log : goal.returns-in-Err-clause-log
returns-in-Err-clause-log g c = log_replayed c.args.log.now (g.D.Desk.state c.args.desk.now) (g.D.Desk.state c.read_file.new.desk) (g.D.Desk.state c.plan_file.new.desk) c.in_ok-model.ensures.only c.in-Err.ensures.within

pub returns-in-Ok-printed-clause-model : goal.returns-in-Ok-printed-clause-model
returns-in-Ok-printed-clause-model g c = model_printed c.args.name.now (plan_text c.args.is_count c.in_ok-model.model c.in-Ok.plan) (Ok _) (g.D.Desk.state c.args.desk.now) (g.D.Desk.state c.read_file.new.desk) (g.D.Desk.state c.plan_file.new.desk) (g.D.Desk.state c.print_plan-printed.new.desk) c.in_ok-model.ensures.within c.in-Ok.ensures.only c.in-Ok-printed.ensures

pub returns-in-Ok-printed-clause-log : goal.returns-in-Ok-printed-clause-log
returns-in-Ok-printed-clause-log g c = log_printed c.args.log.now (plan_text c.args.is_count c.in_ok-model.model c.in-Ok.plan) (Ok _) (g.D.Desk.state c.args.desk.now) (g.D.Desk.state c.read_file.new.desk) (g.D.Desk.state c.plan_file.new.desk) (g.D.Desk.state c.print_plan-printed.new.desk) c.in_ok-model.ensures.only c.in-Ok.ensures.within c.in-Ok-printed.ensures

pub returns-in-Err-printed-clause-model : goal.returns-in-Err-printed-clause-model
returns-in-Err-printed-clause-model g c = model_printed c.args.name.now (plan_text c.args.is_count c.in_ok-model.model c.in-Ok.plan) (Err c.in-Err-printed.stop) (g.D.Desk.state c.args.desk.now) (g.D.Desk.state c.read_file.new.desk) (g.D.Desk.state c.plan_file.new.desk) (g.D.Desk.state c.print_plan-printed.new.desk) c.in_ok-model.ensures.within c.in-Ok.ensures.only c.in-Err-printed.ensures

pub returns-in-Err-printed-clause-log : goal.returns-in-Err-printed-clause-log
returns-in-Err-printed-clause-log g c = log_printed c.args.log.now (plan_text c.args.is_count c.in_ok-model.model c.in-Ok.plan) (Err c.in-Err-printed.stop) (g.D.Desk.state c.args.desk.now) (g.D.Desk.state c.read_file.new.desk) (g.D.Desk.state c.plan_file.new.desk) (g.D.Desk.state c.print_plan-printed.new.desk) c.in_ok-model.ensures.only c.in-Ok.ensures.within c.in-Err-printed.ensures
