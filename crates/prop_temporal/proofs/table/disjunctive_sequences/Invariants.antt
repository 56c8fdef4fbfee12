use Rattle.std.proofs.Common.{take}
use Rattle.prop_temporal.specs.code.Tables.{AreDisjunctive}
use Rattle.prop_temporal.proofs.table.disjunctive_sequences.Given as goal

abbrev pub invariant-loop-constraint : goal.invariant-loop-constraint
invariant-loop-constraint l = AreDisjunctive (take l.constraint-index l.constraints) l.list.items
