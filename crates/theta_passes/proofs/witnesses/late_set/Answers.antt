use Rattle.std.proofs.Common.{rules, to_z, of_z, w64}
use Rattle.theta_passes.specs.code.Rows.{row_at}
use Rattle.theta_passes.proofs.shown.Showing.{no_late, late_said}
use Rattle.std.proofs.lemmas.Result.{IfOk-weaker}
use Rattle.theta_passes.proofs.witnesses.late_set.Goals as goal

pub returns-in_default : goal.returns-in_default
returns-in_default c = absurd (no_late c.args.rows.now c.args.i (to_z w64 (of_z w64 (row_at c.args.rows.now c.args.i).reach)) c.top_of.result c.requires.found (search rules) (search rules) c.top_of.ensures)

pub returns : goal.returns
returns c = IfOk-weaker c.set_from.result _ _ (λ v made. late_said c.args.rows.now c.args.i (to_z w64 (of_z w64 (row_at c.args.rows.now c.args.i).reach)) c.top_of.result c.in-Some.top v.items c.requires.near c.requires.sorted c.requires.found (search rules) c.in-Some.is c.top_of.ensures made) c.set_from.ensures
