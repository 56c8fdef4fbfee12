use Rattle.std.proofs.Common.{◌≡◌, true, get_or, subst, arith, rules}
use Rattle.std.proofs.lemmas.List.{get_or_default}
use Rattle.sched_base.specs.declared.ids.Itv.{Itv}
use Rattle.refute_basic.specs.declared.arc_name.ArcName.{ArcName}
use Rattle.prop_temporal.specs.code.Heights.{Falls, height_in}
use Rattle.prop_temporal.specs.laws.Falling.{falls_side_more, falls_side_all}
use Rattle.prop_temporal.proofs.calm.side_falls_heavily.Goals as goal

pub loop-y-preserved : goal.loop-y-preserved
loop-y-preserved c =
    let m = c.args.model.now in
    let r = c.args.look.now.region in
    let h = height_in c.args.heights.now in
    let y : Itv = get_or c.args.members.now c.loop-y.y-index (record { 0 = 0 }) in
    let yes : c.falls_heavily.result ≡ true = search rules in
    falls_side_more m r h c.args.u c.args.x.0 c.args.members.now c.loop-y.y-index y (omega (arith, c.loop-y-test.true, c.loop-y.auto.y-index-end))
    (get_or_default c.args.members.now c.loop-y.y-index (record { 0 = 0 }) y (omega (arith, c.loop-y-test.true, c.loop-y.auto.y-index-end))) c.loop-y.invariant
    (subst (λ (i : ArcName). Falls m r h i) c.named_member.ensures.value (c.falls_heavily.ensures yes))

pub returns : goal.returns
returns c = λ _. falls_side_all c.args.model.now c.args.look.now.region (height_in c.args.heights.now) c.args.u c.args.x.0 c.args.members.now c.loop-y.y-index c.requires.of c.requires.members (omega (arith, c.loop-y-test.false, c.loop-y.auto.y-index-end)) c.loop-y.invariant
