use Rattle.std.proofs.Common.{take}
use Rattle.prop_unary.specs.code.Circles.{EachOf, SilentAt}
use Rattle.prop_unary.proofs.circles.ask_noted.Given as goal

abbrev pub invariant-loop-at : goal.invariant-loop-at
invariant-loop-at l = EachOf (SilentAt l.model l.region.region l.best l.p l.members) (take l.at l.members)
