use Rattle.std.proofs.Common.{◌≡◌, ◌++◌, drop}
use Rattle.std.specs.Prelude.{flat_map}
use Rattle.log_reports.specs.Texts.{constraint_line}
use Rattle.log_reports.proofs.texts.push_constraints.Given as goal

abbrev pub invariant-loop-c : goal.invariant-loop-c
invariant-loop-c l = l.bytes.items ++ flat_map constraint_line (drop l.c-index l.constraints) ≡ l.initial.bytes.items ++ flat_map constraint_line l.constraints
