use Rattle.findings.specs.code.Tables.{AreLists}
use Rattle.prop_unary.specs.code.Tables.{sequences_at}
use Rattle.prop_unary.proofs.table.sequence_of_each.Given as goal

abbrev pub invariant-loop-k : goal.invariant-loop-k
invariant-loop-k l = AreLists (sequences_at l.model) l.k l.lists.items
