use Rattle.std.proofs.Common.{rules, to_z, of_z, w64}
use Rattle.theta_passes.proofs.shown.Showing.{no_full, full_shown}
use Rattle.std.proofs.lemmas.Result.{IfOk-weaker}
use Rattle.theta_passes.proofs.witnesses.overload_set.Goals as goal

pub returns-in_default : goal.returns-in_default
returns-in_default c = absurd (no_full c.args.rows.now c.args.with c.full_cut.result c.requires.near c.requires.found (search rules) c.full_cut.ensures)

pub returns : goal.returns
returns c = IfOk-weaker c.set_from.result _ _ (λ v made. full_shown c.args.rows.now c.args.with c.full_cut.result (to_z w64 (of_z w64 c.in-Some.end)) c.in-Some.end c.in-Some.first v.items (search rules) c.full_cut.ensures (search rules) made) c.set_from.ensures
