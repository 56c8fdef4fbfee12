use Rattle.std.proofs.Common.{◌≡◌, drop}
use Rattle.std.specs.List.{list_all}
use Rattle.region.specs.Cells.{is_fixed}
use Rattle.region.proofs.look.Look.are_fixed.Given as goal

abbrev pub invariant-loop-n : goal.invariant-loop-n
invariant-loop-n l = list_all is_fixed (drop l.n l.self.region.bounds) ≡ list_all is_fixed l.self.region.bounds
