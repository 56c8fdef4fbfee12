use Rattle.std.proofs.Common.{◌≡◌, ◌++◌, map, drop}
use Rattle.cpo_elab.specs.Literals.{int_of}
use Rattle.cpo_elab.proofs.copies.push_ints.Given as goal

abbrev pub invariant-loop-i : goal.invariant-loop-i
invariant-loop-i l = l.found.items ++ map int_of (drop l.i-index l.row) ≡ l.initial.found.items ++ map int_of l.row
