use Rattle.std.proofs.Common.{[], refl, ◌∙◌, arith}
use Rattle.std.proofs.lemmas.Bool.Decides.{nat_tests}
use Rattle.region.proofs.Places.{look_members}
use Rattle.region.proofs.Shown.{position_is, position_none, nowhere}
use Rattle.region.proofs.look.Look.place.Goals as goal

pub returns-then-p-sequences : goal.returns-then-p-sequences
returns-then-p-sequences c = rw (← c.self.view_is) (position_none [] _ c.args.x 0 (nowhere c.self.inside.frame.now c.self.inside.cells.now c.self.inside.guess c.args.p (omega (arith, c.if-p-sequences.true, c.sequences.ensures))) refl (omega arith))

pub returns-then-place-len : goal.returns-then-place-len
returns-then-place-len c = rw (← c.self.view_is) (position_is c.row-row.result.now.members _ c.args.x c.place-place.result (c.row-row.ensures.members ∙ look_members c.self.inside.frame.now c.self.inside.cells.now c.self.inside.guess c.args.p) c.place-place.ensures.value (grind (arith, nat_tests)))

pub returns : goal.returns
returns c = rw (← c.self.view_is) (position_none c.row-row.result.now.members _ c.args.x c.place-place.result (c.row-row.ensures.members ∙ look_members c.self.inside.frame.now c.self.inside.cells.now c.self.inside.guess c.args.p) c.place-place.ensures.value (grind (arith, nat_tests)))
