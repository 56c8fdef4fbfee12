use Rattle.std.proofs.Common.{◌≡◌, ◌++◌, false, drop}
use Rattle.cpo_elab.specs.Held.{some_int}
use Rattle.cpo_elab.specs.Judged.{is_large, is_negative}
use Rattle.cpo_elab.specs.Elaborated.{types_in}
use Rattle.cpo_elab.proofs.copies.types_in.Given as goal

abbrev pub invariant-loop-i : goal.invariant-loop-i
invariant-loop-i l = record {
  large : some_int is_large (drop l.i-index l.types) ≡ false;
  negative : some_int is_negative (drop l.i-index l.types) ≡ false;
  same : l.found.items ++ types_in (drop l.i-index l.types) ≡ types_in l.types;
}
