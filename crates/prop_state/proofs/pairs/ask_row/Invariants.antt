use Rattle.std.proofs.Common.{take}
use Rattle.prop_state.specs.code.Walks.{EachOf, SilentTwo}
use Rattle.prop_state.proofs.pairs.ask_row.Given as goal

abbrev pub invariant-loop-i : goal.invariant-loop-i
invariant-loop-i l = EachOf (SilentTwo l.model l.region.region l.best l.k l.a.c) (take l.i l.cs)
