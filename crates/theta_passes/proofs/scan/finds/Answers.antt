use Rattle.std.proofs.Common.{rules, to_z, of_z, w64}
use Rattle.theta_passes.proofs.scans.CutScans.{cut_found, none_pushed, none_over}
use Rattle.theta_passes.proofs.scan.finds.Goals as goal

pub returns : goal.returns
returns c = cut_found c.args.rows.now c.args.level (to_z w64 (of_z w64 c.args.level)) c.args.i c.args.pushing c.top_of.result c.is_late_by.result c.requires.near c.requires.sorted c.requires.member (search rules) (search rules) (search rules) (search rules) c.requires.pushing c.top_of.ensures

pub returns-then-not-is_pushed : goal.returns-then-not-is_pushed
returns-then-not-is_pushed c = none_pushed c.args.rows.now c.args.level c.args.i c.args.pushing c.is_pushed.result c.requires.near c.requires.sorted (search rules) (search rules) c.requires.pushing

pub returns-then-is_over_with : goal.returns-then-is_over_with
returns-then-is_over_with c = none_over c.args.rows.now c.args.level c.args.i c.args.pushing c.is_over_with.result c.requires.near c.requires.sorted (search rules) (search rules) c.requires.pushing
