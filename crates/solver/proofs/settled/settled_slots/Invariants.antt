use Rattle.std.proofs.Common.{◌≡◌, ◌++◌, drop, map}
use Rattle.region.specs.Cells.{settled_slot, settled_slots}
use Rattle.solver.proofs.settled.settled_slots.Given as goal

abbrev pub invariant-loop-n : goal.invariant-loop-n
invariant-loop-n l = l.slots.items ++ map settled_slot (drop l.n l.look.region.bounds) ≡ l.initial.slots.items ++ settled_slots l.look.region
