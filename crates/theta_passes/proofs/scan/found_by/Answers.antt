use Rattle.std.proofs.Common.{rules}
use Rattle.theta_passes.proofs.scans.CutScans.{found_member}
use Rattle.theta_passes.proofs.scan.found_by.Goals as goal

pub returns : goal.returns
returns c = found_member c.args.rows.now c.args.k _ c.found_at.result (search rules) c.found_at.ensures
