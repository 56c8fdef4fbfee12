use Rattle.std.proofs.Common.{subst}
use Rattle.command_line.specs.Commands.{Check}
use Rattle.log_reports.specs.Reports.{check_report}
use Rattle.commands.specs.declared.ended.Ended.TheVariants as end
use Rattle.commands.specs.code.Tries.{EndsStopped}
use Rattle.commands.proofs.Ending.{check_reports, reported, report_stopped}
use Rattle.commands.proofs.checking.run_check.Goals as goal
use Rattle.commands.proofs.Within.{stopped_within}

pub returns-in-Ok-clause-promise : goal.returns-in-Ok-clause-promise
returns-in-Ok-clause-promise g c =
    let model = c.args.model.now in
    let log = c.args.log.now in
    reported check_report end.Accepted model log (Check model log) (check_reports model log) _ (g.D.Desk.state c.args.desk.now) (g.D.Desk.state c.report_check.new.desk) c.in-Ok.ensures.tries

pub returns-in-Err-clause-promise : goal.returns-in-Err-clause-promise
returns-in-Err-clause-promise g c =
    let model = c.args.model.now in
    let log = c.args.log.now in
    let after = g.D.Desk.state c.report_check.new.desk in
    let new = g.D.Desk.state c.end_stopped.new.desk in
    report_stopped check_report end.Accepted model log (Check model log) (check_reports model log) c.in-Err.stop c.end_stopped.result (g.D.Desk.state c.args.desk.now) after new c.in-Err.ensures.tries
    (subst (λ stop. EndsStopped stop c.end_stopped.result after new) c.from.ensures c.end_stopped.ensures)

pub returns-in-Err-clause-within : goal.returns-in-Err-clause-within
returns-in-Err-clause-within g c =
    let after = g.D.Desk.state c.report_check.new.desk in
    let new = g.D.Desk.state c.end_stopped.new.desk in
    stopped_within (Check c.args.model.now c.args.log.now) _ c.end_stopped.result (g.D.Desk.state c.args.desk.now) after new (c.in-Err.ensures.model, c.in-Err.ensures.log) c.end_stopped.ensures
