use Rattle.std.proofs.Common.{◌≡◌, ◌++◌, drop}
use Rattle.prop_energy.specs.code.Rows.{rows_of}
use Rattle.prop_energy.proofs.rows.fill_rows.Given as goal

abbrev pub invariant-loop-part : goal.invariant-loop-part
invariant-loop-part l = (l.rows.items ++ rows_of l.look.region (drop l.part-index l.parts)) ≡ rows_of l.look.region l.parts
