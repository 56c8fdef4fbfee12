use Rattle.std.proofs.Common.{◌≡◌, ◌++◌, ◌-◌, ◌≤◌, length}
use Rattle.task_sets.specs.laws.Ects.{up_from, keep}
use Rattle.theta_passes.specs.code.Parts.{part_has}
use Rattle.theta_passes.proofs.parts.set_from.Given as goal

abbrev pub invariant-loop-k : goal.invariant-loop-k
invariant-loop-k l = record {
  set : (l.set.items ++ keep (part_has l.rows l.part) (up_from l.k (length l.rows - l.k))) ≡ keep (part_has l.rows l.part) (up_from l.first (length l.rows - l.first));
  most : l.k ≤ length l.rows;
}
