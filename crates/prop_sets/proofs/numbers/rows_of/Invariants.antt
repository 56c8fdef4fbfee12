use Rattle.prop_sets.specs.code.Rows.{chosen_row, side_of}
use Rattle.prop_sets.proofs.Noted.{AreFirst}
use Rattle.prop_sets.proofs.numbers.rows_of.Given as goal

abbrev pub invariant-loop-k : goal.invariant-loop-k
invariant-loop-k l = AreFirst (chosen_row l.chosen (side_of l.back) l.early) l.region.region l.members l.k l.rows.items
