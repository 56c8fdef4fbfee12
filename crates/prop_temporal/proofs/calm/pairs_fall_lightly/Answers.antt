use Rattle.std.proofs.Common.{◌≡◌, ◌*◌, ◌+◌, true, get_or, arith, rules}
use Rattle.std.specs.Prelude.{int_le}
use Rattle.std.proofs.lemmas.List.{get_or_default}
use Rattle.sched_base.specs.declared.ids.Itv.{Itv}
use Rattle.region.specs.Cells.{cells_of, is_there}
use Rattle.prop_temporal.specs.code.Heights.{height_in}
use Rattle.prop_temporal.specs.laws.Falling.{fall_both, falls_forth, falls_back}
use Rattle.prop_temporal.specs.laws.Pairs.{falls_pairs_none, falls_pairs_more, falls_pairs_all}
use Rattle.prop_temporal.proofs.calm.pairs_fall_lightly.Goals as goal

pub loop-y-init : goal.loop-y-init
loop-y-init c = falls_pairs_none c.args.model.now c.args.look.now.region (height_in c.args.heights.now) c.args.u c.args.x.0

pub loop-y-preserved : goal.loop-y-preserved
loop-y-preserved c =
    let m = c.args.model.now in
    let r = c.args.look.now.region in
    let h = height_in c.args.heights.now in
    let x = c.args.x in
    let y : Itv = get_or c.args.others.now c.loop-y.y-index (record { 0 = 0 }) in
    let forth = int_le (h (2 * y.0)) (h (2 * x.0 + 1)) in
    let back = int_le (h (2 * x.0)) (h (2 * y.0 + 1)) in
    let both : fall_both (cells_of r c.args.p) x y forth back (is_there r y) ≡ true = search rules in
    falls_pairs_more m r h c.args.u x.0 c.args.others.now c.loop-y.y-index y (omega (arith, c.loop-y-test.true, c.loop-y.auto.y-index-end))
    (get_or_default c.args.others.now c.loop-y.y-index (record { 0 = 0 }) y (omega (arith, c.loop-y-test.true, c.loop-y.auto.y-index-end))) c.loop-y.invariant
    (falls_forth m r h c.args.u c.args.p x y back c.requires both) (falls_back m r h c.args.u c.args.p x y forth c.requires both)

pub returns : goal.returns
returns c = λ _. falls_pairs_all c.args.model.now c.args.look.now.region (height_in c.args.heights.now) c.args.u c.args.x.0 c.args.others.now c.loop-y.y-index (omega (arith, c.loop-y-test.false, c.loop-y.auto.y-index-end)) c.loop-y.invariant
