use Rattle.std.proofs.Common.{take}
use Rattle.prop_state.specs.code.Silence.{IsCovered}
use Rattle.prop_state.specs.code.Walks.{EachOf}
use Rattle.prop_state.proofs.parts.longest_of.Given as goal

abbrev pub invariant-loop-c : goal.invariant-loop-c
invariant-loop-c l = EachOf (IsCovered l.model l.region.region l.longest) (take l.c-index l.cs)
