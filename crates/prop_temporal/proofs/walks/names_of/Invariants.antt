use Rattle.std.proofs.Common.{◌≡◌, map, take}
use Rattle.prop_temporal.specs.code.Shown.{name_at}
use Rattle.prop_temporal.proofs.walks.names_of.Given as goal

abbrev pub invariant-loop-k : goal.invariant-loop-k
invariant-loop-k l = l.walk ≡ map (name_at l.names) (take l.k-index l.places)
