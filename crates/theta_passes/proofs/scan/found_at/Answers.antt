use Rattle.std.proofs.Common.{rules, to_z, of_z, w64}
use Rattle.theta_passes.proofs.scans.Pushed.{none_in_cut}
use Rattle.theta_passes.proofs.scan.found_at.Goals as goal

pub returns-in-None : goal.returns-in-None
returns-in-None c = none_in_cut c.args.rows.now c.args.level (to_z w64 (of_z w64 c.args.level)) (search rules) c.requires.near c.requires.sorted c.in-None.ensures
