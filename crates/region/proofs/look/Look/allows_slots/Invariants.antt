use Rattle.std.proofs.Common.{◌≡◌, drop}
use Rattle.sched_model.specs.Words.{placewise}
use Rattle.region.specs.Cells.{fits_bounds}
use Rattle.region.proofs.look.Look.allows_slots.Given as goal

abbrev pub invariant-loop-n : goal.invariant-loop-n
invariant-loop-n l = placewise fits_bounds (drop l.n l.self.region.bounds) (drop l.n l.slots) ≡ placewise fits_bounds l.self.region.bounds l.slots
