use Rattle.std.proofs.Common.{rules, to_z, of_z, w64}
use Rattle.theta_passes.specs.code.Rows.{row_at}
use Rattle.theta_passes.proofs.trees.Filling.{late_is}
use Rattle.theta_passes.proofs.trees.Filling.{key_is}
use Rattle.theta_passes.proofs.late.is_late.Goals as goal

pub ect_without-ect-requires-clause-at : goal.ect_without-ect-requires-clause-at
ect_without-ect-requires-clause-at c = key_is c.fill.new.tree c.args.rows.now (to_z w64 (of_z w64 (row_at c.args.rows.now c.args.i).reach)) (row_at c.args.rows.now c.args.i).reach (search rules) c.fill.ensures.at

pub returns-clause-late : goal.returns-clause-late
returns-clause-late c = late_is c.args.rows.now c.args.i c.is_above.result (to_z w64 (of_z w64 (row_at c.args.rows.now c.args.i).bar)) c.ect_without-ect.result (search rules) c.is_above.ensures c.ect_without-ect.ensures.value
