use Rattle.std.proofs.Common.{◌≤◌, length}
use Rattle.theta_passes.specs.code.Parts.{IsScanned, part_has}
use Rattle.theta_passes.proofs.parts.top_of.Given as goal

abbrev pub invariant-loop-k : goal.invariant-loop-k
invariant-loop-k l = record {
  scanned : IsScanned l.rows (part_has l.rows l.part) l.k l.scan;
  most : l.k ≤ length l.rows;
}

abbrev pub decreases-loop-k : goal.decreases-loop-k
decreases-loop-k l = l.k
