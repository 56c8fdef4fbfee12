use Rattle.std.proofs.Common.{◌≡◌, false, refl, get_or, rules}
use Rattle.sched_base.specs.declared.ids.Itv.{Itv}
use Rattle.refute_seq.specs.Standing.{precedes}
use Rattle.prop_unary.specs.code.Circles.{SilentBehind}
use Rattle.prop_unary.proofs.Walks.{each_more, each_all}
use Rattle.prop_unary.proofs.Asked.{busy_triple, not_behind}
use Rattle.prop_unary.proofs.circles.ask_behind.Goals as goal

pub returns-in-Some-clause-busy : goal.returns-in-Some-clause-busy
returns-in-Some-clause-busy c = busy_triple c.args.model.now c.args.region.now.region c.args.best c.args.p c.args.x c.args.y _ c.requires.within c.in-Some.ensures.busy

pub loop-z-preserved-then-not-precedes : goal.loop-z-preserved-then-not-precedes
loop-z-preserved-then-not-precedes c =
    let member : Itv = get_or c.args.members.now c.loop-z.z-index (record { 0 = 0 }) in
    let off : precedes c.args.region.now.region c.args.p c.args.y member ≡ false = search rules in
    each_more (SilentBehind c.args.model.now c.args.region.now.region c.args.best c.args.p c.args.x c.args.y) c.args.members.now c.loop-z.z-index member (record { 0 = 0 }) c.loop-z-test.true refl c.loop-z.invariant (not_behind c.args.model.now c.args.region.now.region c.args.best c.args.p c.args.x c.args.y member off)

pub loop-z-preserved : goal.loop-z-preserved
loop-z-preserved c = each_more (SilentBehind c.args.model.now c.args.region.now.region c.args.best c.args.p c.args.x c.args.y) c.args.members.now c.loop-z.z-index _ (record { 0 = 0 }) c.loop-z-test.true refl c.loop-z.invariant (λ told. c.in_default.ensures.none)

pub returns-clause-none : goal.returns-clause-none
returns-clause-none c = each_all (SilentBehind c.args.model.now c.args.region.now.region c.args.best c.args.p c.args.x c.args.y) c.args.members.now c.loop-z.z-index c.loop-z-test.false c.loop-z.invariant
