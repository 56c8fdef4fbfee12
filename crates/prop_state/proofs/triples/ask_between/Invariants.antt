use Rattle.std.proofs.Common.{take}
use Rattle.prop_state.specs.code.Walks.{EachOf, SilentThree}
use Rattle.prop_state.proofs.triples.ask_between.Given as goal

abbrev pub invariant-loop-i : goal.invariant-loop-i
invariant-loop-i l = EachOf (λ c2. SilentThree l.model l.region.region l.best l.k l.a.c c2 l.b.c) (take l.i l.cs)
