use Rattle.findings.specs.code.Tables.{AreLists}
use Rattle.prop_unary.specs.code.Tables.{members_at}
use Rattle.prop_unary.proofs.table.members_of_each.Given as goal

abbrev pub invariant-loop-k : goal.invariant-loop-k
invariant-loop-k l = AreLists (members_at l.model) l.k l.lists.items
