use Rattle.bound_report.specs.laws.Verdicts.{one_bound, optimal_bound, infeasible_bound, plain_bound}
use Rattle.bound_report.proofs.laws.bound_by_verdict.Goals as goal

pub returns-clause-one : goal.returns-clause-one
returns-clause-one c = one_bound

pub returns-clause-optimal : goal.returns-clause-optimal
returns-clause-optimal c = optimal_bound

pub returns-clause-infeasible : goal.returns-clause-infeasible
returns-clause-infeasible c = infeasible_bound

pub returns-clause-plain : goal.returns-clause-plain
returns-clause-plain c = plain_bound
