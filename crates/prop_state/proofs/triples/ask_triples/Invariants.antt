use Rattle.std.proofs.Common.{take}
use Rattle.prop_state.specs.code.Walks.{EachOf, SilentAround}
use Rattle.prop_state.proofs.triples.ask_triples.Given as goal

abbrev pub invariant-loop-i : goal.invariant-loop-i
invariant-loop-i l = EachOf (λ c1. EachOf (SilentAround l.model l.region.region l.best l.k c1 l.between.cs.now) l.last.cs.now) (take l.i l.first.cs.now)
