use Rattle.std.proofs.Common.{subst}
use Rattle.prop_temporal.specs.code.Heights.{AllKeep, height_with}
use Rattle.prop_temporal.specs.laws.Own.{own_keep}
use Rattle.prop_temporal.proofs.walks.is_calm_with.Goals as goal

pub returns : goal.returns
returns c = λ yes. own_keep c.args.model.now c.args.look.now.region c.args.x c.args.constraints.now c.args.heights.now c.fill_of.new.self c.least_heights-pair.result.start c.least_heights-pair.result.end c.in_ok-fill_of.ensures
    (subst (AllKeep (height_with c.args.heights.now c.args.x c.least_heights-pair.result.start c.least_heights-pair.result.end)) c.arcs-2.ensures (c.hold_with.ensures yes))
