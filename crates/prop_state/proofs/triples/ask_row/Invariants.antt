use Rattle.std.proofs.Common.{take}
use Rattle.prop_state.specs.code.Walks.{EachOf, SilentAround}
use Rattle.prop_state.proofs.triples.ask_row.Given as goal

abbrev pub invariant-loop-i : goal.invariant-loop-i
invariant-loop-i l = EachOf (SilentAround l.model l.region.region l.fn.best l.k l.a.c l.between.cs.now) (take l.i l.last.cs.now)
