use Rattle.std.proofs.Common.{◌≡◌, ◌++◌, map, flat_map, drop}
use Rattle.cpo_elab.specs.Literals.{int_of}
use Rattle.cpo_elab.proofs.copies.cells_in.Given as goal

abbrev pub invariant-loop-row : goal.invariant-loop-row
invariant-loop-row l = l.found.items ++ flat_map (map int_of) (drop l.row-index l.rows) ≡ flat_map (map int_of) l.rows
