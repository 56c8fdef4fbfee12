use Rattle.std.proofs.Common.{ℤ, Option}
use Rattle.prop_unary.specs.code.Silence.{AreSilentBoth}
use Rattle.prop_unary.specs.code.Circles.{EachBetween}
use Rattle.prop_unary.specs.code.Rows.{member_at}
use Rattle.prop_unary.proofs.rest.is_row_silent.Given as goal

abbrev pub invariant-loop-k : goal.invariant-loop-k
invariant-loop-k l = (best : Option ℤ) → EachBetween (AreSilentBoth l.model l.region.region best l.d (member_at l.members l.at)) l.members 0 l.k
