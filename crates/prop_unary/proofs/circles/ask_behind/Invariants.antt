use Rattle.std.specs.Prelude.{take}
use Rattle.prop_unary.specs.code.Circles.{EachOf, SilentBehind}
use Rattle.prop_unary.proofs.circles.ask_behind.Given as goal

abbrev pub invariant-loop-z : goal.invariant-loop-z
invariant-loop-z l = EachOf (SilentBehind l.model l.region.region l.best l.p l.x l.y) (take l.z-index l.members)
