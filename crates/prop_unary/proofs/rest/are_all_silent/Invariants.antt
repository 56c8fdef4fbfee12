use Rattle.std.proofs.Common.{◌<◌, ℕ, ℤ, Option}
use Rattle.prop_unary.specs.code.Silence.{AreSilentBoth}
use Rattle.prop_unary.specs.code.Circles.{EachBetween}
use Rattle.prop_unary.specs.code.Rows.{member_at}
use Rattle.prop_unary.proofs.rest.are_all_silent.Given as goal

abbrev pub invariant-loop-at : goal.invariant-loop-at
invariant-loop-at l = (best : Option ℤ) (i : ℕ) → i < l.at → EachBetween (AreSilentBoth l.model l.region.region best l.d (member_at l.members i)) l.members 0 i
