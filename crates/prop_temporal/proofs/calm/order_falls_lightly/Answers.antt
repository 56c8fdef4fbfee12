use Rattle.std.proofs.Common.{◌≡◌, ◌+◌, true, false, get_or, subst, arith, rules}
use Rattle.std.proofs.lemmas.List.{get_or_default, take_rest}
use Rattle.sched_base.specs.declared.ids.Itv.{Itv}
use Rattle.region.specs.Cells.{is_there}
use Rattle.prop_temporal.specs.code.Shown.{IsOfPairs}
use Rattle.prop_temporal.specs.code.Heights.{FallsAlong, height_in}
use Rattle.prop_temporal.specs.laws.Pairs.{falls_from_none, falls_from_more, falls_from_past, falls_from_all}
use Rattle.prop_temporal.proofs.calm.order_falls_lightly.Goals as goal

pub loop-k-init : goal.loop-k-init
loop-k-init c = falls_from_none c.args.model.now c.args.look.now.region (height_in c.args.heights.now) c.args.u c.args.members.now

pub loop-k-preserved-then-not-is_there : goal.loop-k-preserved-then-not-is_there
loop-k-preserved-then-not-is_there c =
    let x : Itv = get_or c.args.members.now c.loop-k.k (record { 0 = 0 }) in
    let away : is_there c.args.look.now.region x ≡ false = search rules in
    falls_from_past c.args.model.now c.args.look.now.region (height_in c.args.heights.now) c.args.u c.args.members.now c.loop-k.k x c.requires.of (omega (arith, c.loop-k-test.true))
    (get_or_default c.args.members.now c.loop-k.k (record { 0 = 0 }) x (omega (arith, c.loop-k-test.true))) away c.loop-k.invariant

pub loop-k-preserved : goal.loop-k-preserved
loop-k-preserved c =
    let m = c.args.model.now in
    let r = c.args.look.now.region in
    let h = height_in c.args.heights.now in
    let ms = c.args.members.now in
    let k = c.loop-k.k in
    let x : Itv = get_or ms k (record { 0 = 0 }) in
    let yes : c.pairs_fall_lightly.result ≡ true = search rules in
    falls_from_more m r h c.args.u ms k x c.requires.of (omega (arith, c.loop-k-test.true))
    (get_or_default ms k (record { 0 = 0 }) x (omega (arith, c.loop-k-test.true))) c.loop-k.invariant
    (subst (λ ys. FallsAlong m r h (IsOfPairs c.args.u x.0 ys)) (take_rest ms (k + 1)) (c.pairs_fall_lightly.ensures yes))

pub returns : goal.returns
returns c = λ _. falls_from_all c.args.model.now c.args.look.now.region (height_in c.args.heights.now) c.args.u c.args.members.now c.loop-k.k c.requires.of c.requires.members (omega (arith, c.loop-k-test.false)) c.loop-k.invariant
