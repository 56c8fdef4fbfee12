use Rattle.std.proofs.Common.{◌≡◌, Err, rules, sym, subst}
use Rattle.log_reports.specs.Reports.{bound_report}
use Rattle.log_reports.specs.code.Stops.{stop_of_check}
use Rattle.log_reports.specs.code.Tries.{JudgesFile}
use Rattle.log_reports.proofs.Reported.{told_file, not_told}
use Rattle.log_reports.proofs.reporting.bound_file.Goals as goal

pub returns-in_err-bounded-clause-judges : goal.returns-in_err-bounded-clause-judges
returns-in_err-bounded-clause-judges g c =
    let old = g.D.Desk.state c.args.desk.now in
    let after = g.D.Desk.state c.bound.new.desk in
    let is : c.from_residual-in_err-bounded.result ≡ Err (stop_of_check c.in_err-bounded.field-0.0) = search rules in
    subst (λ r. JudgesFile bound_report c.args.model.now c.args.log.now r old after) (sym is)
    (not_told bound_report c.args.model.now c.args.log.now c.in_err-bounded.field-0.0 c.in_ok-open_in.field-0 old (g.D.Desk.state c.open_in.new.self) after c.in_ok-open_in.ensures c.in_err-bounded.ensures.bounds)

pub returns-clause-judges : goal.returns-clause-judges
returns-clause-judges g c =
    told_file bound_report c.args.model.now c.args.log.now c.in_ok-bounded.bounded c.in_ok-open_in.field-0 (g.D.Desk.state c.args.desk.now) (g.D.Desk.state c.open_in.new.self) (g.D.Desk.state c.bound.new.desk)
    c.in_ok-open_in.ensures c.in_ok-bounded.ensures.bounds c.in_ok-bounded.ensures.means
