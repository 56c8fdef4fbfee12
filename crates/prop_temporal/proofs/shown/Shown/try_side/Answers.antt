use Rattle.std.proofs.Common.{◌≡◌, false, get_or, subst, arith, rules}
use Rattle.std.proofs.lemmas.List.{get_or_default}
use Rattle.sched_base.specs.declared.ids.Itv.{Itv}
use Rattle.region.specs.Cells.{is_there}
use Rattle.refute_basic.specs.declared.arc_name.ArcName.{ArcName}
use Rattle.prop_temporal.specs.code.Shown.{Tries}
use Rattle.prop_temporal.specs.laws.Collecting.{side_more, side_past, side_all}
use Rattle.prop_temporal.proofs.shown.Shown.try_side.Goals as goal

pub loop-y-preserved-then-not-is_there : goal.loop-y-preserved-then-not-is_there
loop-y-preserved-then-not-is_there c =
    let y : Itv = get_or c.args.members.now c.loop-y.y-index (record { 0 = 0 }) in
    let away : is_there c.args.look.now.region y ≡ false = search rules in
    side_more c.args.model.now c.args.look.now.region c.args.behind c.args.u c.args.x.0 c.args.members.now c.loop-y.y-index y c.args.self.now c.loop-y.self c.loop-y.self (omega (arith, c.loop-y-test.true, c.loop-y.auto.y-index-end))
    (get_or_default c.args.members.now c.loop-y.y-index (record { 0 = 0 }) y (omega (arith, c.loop-y-test.true, c.loop-y.auto.y-index-end))) c.loop-y.invariant
    (side_past c.args.model.now c.args.look.now.region c.args.behind c.args.u c.args.x.0 y c.loop-y.self c.requires.of away)

pub loop-y-preserved : goal.loop-y-preserved
loop-y-preserved c =
    let y : Itv = get_or c.args.members.now c.loop-y.y-index (record { 0 = 0 }) in
    side_more c.args.model.now c.args.look.now.region c.args.behind c.args.u c.args.x.0 c.args.members.now c.loop-y.y-index y c.args.self.now c.loop-y.self c.try_told.new.self (omega (arith, c.loop-y-test.true, c.loop-y.auto.y-index-end))
    (get_or_default c.args.members.now c.loop-y.y-index (record { 0 = 0 }) y (omega (arith, c.loop-y-test.true, c.loop-y.auto.y-index-end))) c.loop-y.invariant
    (subst (λ (i : ArcName). Tries c.args.model.now c.args.look.now.region i c.loop-y.self c.try_told.new.self) c.named_member.ensures.value c.in_ok-try_told.ensures)

pub returns : goal.returns
returns c = side_all c.args.model.now c.args.look.now.region c.args.behind c.args.u c.args.x.0 c.args.members.now c.loop-y.y-index c.args.self.now c.loop-y.self c.requires.of c.requires.members (omega (arith, c.loop-y-test.false, c.loop-y.auto.y-index-end)) c.loop-y.invariant
