use Rattle.std.proofs.Common.{◌≡◌, false, refl, rules}
use Rattle.refute_seq.specs.Standing.{precedes}
use Rattle.prop_unary.specs.code.Circles.{SilentAround}
use Rattle.prop_unary.specs.code.Rows.{member_at}
use Rattle.prop_unary.specs.laws.Rows.{around_silent}
use Rattle.prop_unary.proofs.Walks.{each_more, each_all}
use Rattle.prop_unary.proofs.Asked.{not_around}
use Rattle.prop_unary.proofs.circles.ask_around.Goals as goal

pub loop-k-preserved-then-is_clear : goal.loop-k-preserved-then-is_clear
loop-k-preserved-then-is_clear c =
    let m = c.args.model.now in
    let r = c.args.region.now.region in
    let ms = c.args.members.now in
    each_more (SilentAround m r c.args.best c.args.p ms (member_at ms c.args.at)) ms c.loop-k.k (member_at ms c.loop-k.k) (record { 0 = 0 }) c.loop-k-test.true refl c.loop-k.invariant
    (around_silent m r c.args.best c.args.p ms (member_at ms c.loop-k.k) c.args.at _ _ c.requires.of c.requires.here c.requires.middle (c.requires.rows c.loop-k.k c.loop-k-test.true _) (c.requires.rows c.args.at c.requires.here _) (c.is_clear.ensures c.if-is_clear.true))

pub loop-k-preserved-then-not-precedes : goal.loop-k-preserved-then-not-precedes
loop-k-preserved-then-not-precedes c =
    let ms = c.args.members.now in
    let off : precedes c.args.region.now.region c.args.p (member_at ms c.loop-k.k) (member_at ms c.args.at) ≡ false = search rules in
    each_more (SilentAround c.args.model.now c.args.region.now.region c.args.best c.args.p ms (member_at ms c.args.at)) ms c.loop-k.k (member_at ms c.loop-k.k) (record { 0 = 0 }) c.loop-k-test.true refl c.loop-k.invariant
    (not_around c.args.model.now c.args.region.now.region c.args.best c.args.p ms (member_at ms c.args.at) (member_at ms c.loop-k.k) off)

pub loop-k-preserved : goal.loop-k-preserved
loop-k-preserved c =
    each_more (SilentAround c.args.model.now c.args.region.now.region c.args.best c.args.p c.args.members.now (member_at c.args.members.now c.args.at)) c.args.members.now c.loop-k.k _ (record { 0 = 0 }) c.loop-k-test.true refl c.loop-k.invariant (λ told. c.in_default.ensures.none)

pub returns-clause-none : goal.returns-clause-none
returns-clause-none c = each_all (SilentAround c.args.model.now c.args.region.now.region c.args.best c.args.p c.args.members.now (member_at c.args.members.now c.args.at)) c.args.members.now c.loop-k.k c.loop-k-test.false c.loop-k.invariant
