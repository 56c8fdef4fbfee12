use Rattle.std.specs.Prelude.{◌≡◌}
use Rattle.std.proofs.Common.{take}
use Rattle.prop_hier.specs.code.Counts.{counts_of}
use Rattle.prop_hier.proofs.counts.count_parts.Given as goal

abbrev pub invariant-loop-b : goal.invariant-loop-b
invariant-loop-b l = l.counts ≡ counts_of l.family.kind l.look.region l.family.a (take l.b-index l.family.parts.now)
