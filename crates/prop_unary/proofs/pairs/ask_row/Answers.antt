use Rattle.std.proofs.Common.{refl}
use Rattle.prop_unary.specs.code.Silence.{AreSilentWhere}
use Rattle.prop_unary.proofs.Walks.{each_more, each_all}
use Rattle.prop_unary.proofs.Noted.{silent_by_test}
use Rattle.prop_unary.proofs.pairs.ask_row.Goals as goal

pub loop-k-preserved-then-is_surely_silent : goal.loop-k-preserved-then-is_surely_silent
loop-k-preserved-then-is_surely_silent c =
    let r = c.args.region.now.region in
    let d = c.args.d.now in
    each_more (AreSilentWhere c.args.model.now r c.args.best d c.args.order c.args.first.member) c.args.members.now c.loop-k.k _ (record { 0 = 0 }) c.loop-k-test.true refl c.loop-k.invariant
    (silent_by_test c.args.model.now r c.args.best d c.args.order c.args.first.member _ c.requires.is (c.is_surely_silent.ensures c.if-is_surely_silent.true))

pub loop-k-preserved : goal.loop-k-preserved
loop-k-preserved c =
    each_more (AreSilentWhere c.args.model.now c.args.region.now.region c.args.best c.args.d.now c.args.order c.args.first.member) c.args.members.now c.loop-k.k _ (record { 0 = 0 }) c.loop-k-test.true refl c.loop-k.invariant c.in_default.ensures.none

pub returns-clause-none : goal.returns-clause-none
returns-clause-none c = each_all (AreSilentWhere c.args.model.now c.args.region.now.region c.args.best c.args.d.now c.args.order c.args.first.member) c.args.members.now c.loop-k.k c.loop-k-test.false c.loop-k.invariant
