use Rattle.log_reports.specs.Reports.{core_report}
use Rattle.log_reports.proofs.Reported.{tried}
use Rattle.log_reports.proofs.Within.{log_judged, model_told}
use Rattle.log_reports.proofs.reporting.report_core.Goals as goal

pub returns-clause-model : goal.returns-clause-model
returns-clause-model g c =
    model_told core_report c.in_ok-model.model c.args.name.now c.args.log.now c.tell_core-told.result (g.D.Desk.state c.args.desk.now) (g.D.Desk.state c.read_file.new.desk) (g.D.Desk.state c.tell_core-told.new.desk)
    c.in_ok-model.ensures.within c.tell_core-told.ensures.tells

pub returns-clause-log : goal.returns-clause-log
returns-clause-log g c =
    log_judged c.args.log.now (g.D.Desk.state c.args.desk.now) (g.D.Desk.state c.read_file.new.desk) (g.D.Desk.state c.tell_core-told.new.desk) c.in_ok-model.ensures.only c.tell_core-told.ensures.within

pub returns-clause-tries : goal.returns-clause-tries
returns-clause-tries g c =
    tried core_report c.in_ok-model.model c.args.name.now c.args.log.now c.tell_core-told.result (g.D.Desk.state c.args.desk.now) (g.D.Desk.state c.read_file.new.desk) (g.D.Desk.state c.tell_core-told.new.desk)
    c.in_ok-model.ensures.only c.in_ok-model.ensures.reads c.tell_core-told.ensures.tells
