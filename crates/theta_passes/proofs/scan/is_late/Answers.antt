use Rattle.std.proofs.Common.{rules, to_z, of_z, w64}
use Rattle.theta_passes.specs.code.Rows.{row_at}
use Rattle.theta_passes.proofs.scans.Scanned.{late_scanned}
use Rattle.theta_passes.proofs.scan.is_late.Goals as goal

pub returns : goal.returns
returns c = late_scanned c.args.rows.now c.args.i (to_z w64 (of_z w64 (row_at c.args.rows.now c.args.i).bar)) c.top_before.result c.is_late_by.result c.requires.near c.requires.sorted (search rules) (search rules) c.top_before.ensures
