use Rattle.std.proofs.Common.{◌≡◌, ◌++◌, drop}
use Rattle.prop_energy.specs.code.Bounds.{bounds_from}
use Rattle.prop_energy.proofs.bounds.bounds_of.Given as goal

abbrev pub invariant-loop-k : goal.invariant-loop-k
invariant-loop-k l = (l.bounds.items ++ bounds_from l.model l.k (drop l.k l.model.constraints)) ≡ bounds_from l.model 0 l.model.constraints
