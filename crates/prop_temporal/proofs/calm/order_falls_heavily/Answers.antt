use Rattle.std.proofs.Common.{◌≡◌, true, false, get_or, arith, rules}
use Rattle.std.proofs.lemmas.List.{get_or_default}
use Rattle.sched_base.specs.declared.ids.Itv.{Itv}
use Rattle.region.specs.Cells.{is_there}
use Rattle.prop_temporal.specs.code.Heights.{height_in}
use Rattle.prop_temporal.specs.laws.Falling.{falls_order_more, falls_order_past, falls_order_all}
use Rattle.prop_temporal.proofs.calm.order_falls_heavily.Goals as goal

pub loop-x-preserved-then-not-is_there : goal.loop-x-preserved-then-not-is_there
loop-x-preserved-then-not-is_there c =
    let x : Itv = get_or c.args.members.now c.loop-x.x-index (record { 0 = 0 }) in
    let away : is_there c.args.look.now.region x ≡ false = search rules in
    falls_order_past c.args.model.now c.args.look.now.region (height_in c.args.heights.now) c.args.u c.args.members.now c.loop-x.x-index x c.requires.of (omega (arith, c.loop-x-test.true, c.loop-x.auto.x-index-end))
    (get_or_default c.args.members.now c.loop-x.x-index (record { 0 = 0 }) x (omega (arith, c.loop-x-test.true, c.loop-x.auto.x-index-end))) away c.loop-x.invariant

pub loop-x-preserved : goal.loop-x-preserved
loop-x-preserved c =
    let x : Itv = get_or c.args.members.now c.loop-x.x-index (record { 0 = 0 }) in
    let yes : c.side_falls_heavily.result ≡ true = search rules in
    falls_order_more c.args.model.now c.args.look.now.region (height_in c.args.heights.now) c.args.u c.args.members.now c.loop-x.x-index x (omega (arith, c.loop-x-test.true, c.loop-x.auto.x-index-end))
    (get_or_default c.args.members.now c.loop-x.x-index (record { 0 = 0 }) x (omega (arith, c.loop-x-test.true, c.loop-x.auto.x-index-end))) c.loop-x.invariant (c.side_falls_heavily.ensures yes)

pub returns : goal.returns
returns c = λ _. falls_order_all c.args.model.now c.args.look.now.region (height_in c.args.heights.now) c.args.u c.args.members.now c.loop-x.x-index c.requires.of c.requires.members (omega (arith, c.loop-x-test.false, c.loop-x.auto.x-index-end)) c.loop-x.invariant
