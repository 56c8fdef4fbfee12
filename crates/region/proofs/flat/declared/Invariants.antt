use Rattle.std.proofs.Common.{◌≡◌, map, take}
use Rattle.std.specs.List.{flat_map}
use Rattle.region.specs.code.Flat.{size_range, first_numbers}
use Rattle.region.proofs.flat.declared.Given as goal

abbrev pub invariant-loop-d : goal.invariant-loop-d
invariant-loop-d l = record {
  sizes : l.sizes.items ≡ map size_range (take l.d-index l.defs);
  cells : l.cells.items ≡ flat_map first_numbers (take l.d-index l.defs);
}
