use Rattle.theta_passes.specs.laws.Quiet.{quiet_edges, found_edge, quiet_detects, found_detect}
use Rattle.theta_passes.proofs.laws.passes_decide.Goals as goal

pub returns-clause-quiet_edge : goal.returns-clause-quiet_edge
returns-clause-quiet_edge c = quiet_edges

pub returns-clause-found_edge : goal.returns-clause-found_edge
returns-clause-found_edge c = found_edge

pub returns-clause-quiet_detect : goal.returns-clause-quiet_detect
returns-clause-quiet_detect c = quiet_detects

pub returns-clause-found_detect : goal.returns-clause-found_detect
returns-clause-found_detect c = found_detect
