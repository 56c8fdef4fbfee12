use Rattle.std.proofs.Common.{take}
use Rattle.prop_unary.specs.code.Circles.{EachOf, SilentAround}
use Rattle.prop_unary.specs.code.Rows.{member_at}
use Rattle.prop_unary.proofs.circles.ask_around.Given as goal

abbrev pub invariant-loop-k : goal.invariant-loop-k
invariant-loop-k l = EachOf (SilentAround l.model l.region.region l.best l.p l.members (member_at l.members l.at)) (take l.k l.members)
