use Rattle.std.proofs.Common.{◌≡◌, true, ◌++◌, length}
use Rattle.std.specs.Prelude.{flat_map}
use Rattle.std.specs.List.{list_all}
use Rattle.refute_basic.specs.Witness.{name_numbers, is_name}
use Rattle.refute_basic.proofs.names.read_names.Given as goal

abbrev pub invariant-loop-left : goal.invariant-loop-left
invariant-loop-left l = record {
  whole : flat_map name_numbers l.arcs ++ l.left ≡ l.numbers;
  named : list_all is_name l.arcs ≡ true;
}

abbrev pub decreases-loop-left : goal.decreases-loop-left
decreases-loop-left l = length l.left
