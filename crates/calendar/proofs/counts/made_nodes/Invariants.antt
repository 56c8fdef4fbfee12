use Rattle.std.proofs.Common.{◌≡◌, ◌+◌, ◌*◌, ◌≤◌, drop}
use Rattle.calendar.specs.code.Counts.{made_nodes}
use Rattle.calendar.proofs.counts.made_nodes.Given as goal

abbrev pub invariant-loop-r : goal.invariant-loop-r
invariant-loop-r l = record {
  same : l.total + made_nodes l.demand (drop l.r-index l.ranges) ≡ made_nodes l.demand l.ranges;
  few : l.total ≤ 14 * l.r-index;
}
