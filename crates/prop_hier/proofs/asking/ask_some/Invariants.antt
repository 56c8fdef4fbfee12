use Rattle.prop_hier.specs.code.Rows.{refutes_under}
use Rattle.prop_hier.specs.code.Asked.{AskedFirst}
use Rattle.prop_hier.proofs.asking.ask_some.Given as goal

abbrev pub invariant-loop-k : goal.invariant-loop-k
invariant-loop-k l = AskedFirst (refutes_under l.family.kind l.region.region l.family.a l.family.parts.now) l.region.region l.xs l.k
