use Rattle.prop_state.specs.code.Known.{AreFresh}
use Rattle.prop_state.proofs.known.note_fresh.Given as goal

abbrev pub invariant-loop-i : goal.invariant-loop-i
invariant-loop-i l = AreFresh l.model l.region.region l.k l.cs l.notes l.known l.i l.fresh.items l.others.items
