use Rattle.std.proofs.Common.{◌≡◌, false, refl, rules}
use Rattle.region.specs.Cells.{is_there}
use Rattle.prop_unary.specs.code.Circles.{SilentAt}
use Rattle.prop_unary.specs.code.Rows.{member_at}
use Rattle.prop_unary.proofs.Walks.{each_more, each_all}
use Rattle.prop_unary.proofs.Asked.{not_there, quiet_circles}
use Rattle.prop_unary.proofs.circles.ask_noted.Goals as goal

pub loop-at-preserved-then-not-is_there : goal.loop-at-preserved-then-not-is_there
loop-at-preserved-then-not-is_there c =
    let ms = c.args.members.now in
    let off : is_there c.args.region.now.region (member_at ms c.loop-at.at) ≡ false = search rules in
    each_more (SilentAt c.args.model.now c.args.region.now.region c.args.best c.args.p ms) ms c.loop-at.at (member_at ms c.loop-at.at) (record { 0 = 0 }) c.loop-at-test.true refl c.loop-at.invariant (not_there c.args.model.now c.args.region.now.region c.args.best c.args.p ms (member_at ms c.loop-at.at) off)

pub loop-at-preserved : goal.loop-at-preserved
loop-at-preserved c = each_more (SilentAt c.args.model.now c.args.region.now.region c.args.best c.args.p c.args.members.now) c.args.members.now c.loop-at.at _ (record { 0 = 0 }) c.loop-at-test.true refl c.loop-at.invariant (λ told. c.in_default.ensures.none)

pub returns-clause-none : goal.returns-clause-none
returns-clause-none c =
    quiet_circles c.args.model.now c.args.region.now.region c.args.best c.args.p c.args.members.now c.requires.of c.requires.members
    (each_all (SilentAt c.args.model.now c.args.region.now.region c.args.best c.args.p c.args.members.now) c.args.members.now c.loop-at.at c.loop-at-test.false c.loop-at.invariant)
