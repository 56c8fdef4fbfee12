use Rattle.std.proofs.Common.{◌≡◌, ◌++◌, map, drop}
use Rattle.theta_passes.specs.code.Rows.{task_of}
use Rattle.theta_passes.proofs.leaves.tasks_of.Given as goal

abbrev pub invariant-loop-row : goal.invariant-loop-row
invariant-loop-row l = (l.tasks.items ++ map task_of (drop l.row-index l.rows)) ≡ map task_of l.rows
