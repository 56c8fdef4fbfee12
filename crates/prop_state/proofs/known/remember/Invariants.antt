use Rattle.prop_state.specs.code.Known.{Remembers}
use Rattle.prop_state.proofs.known.remember.Given as goal

abbrev pub invariant-loop-i : goal.invariant-loop-i
invariant-loop-i l = Remembers l.region.region l.i l.notes l.list.items
