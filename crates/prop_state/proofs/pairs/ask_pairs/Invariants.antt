use Rattle.std.proofs.Common.{take}
use Rattle.prop_state.specs.code.Walks.{EachOf, SilentTwo}
use Rattle.prop_state.proofs.pairs.ask_pairs.Given as goal

abbrev pub invariant-loop-i : goal.invariant-loop-i
invariant-loop-i l = EachOf (λ c1. EachOf (SilentTwo l.model l.region.region l.best l.k c1) l.second.cs.now) (take l.i l.first.cs.now)
