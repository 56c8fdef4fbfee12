use Rattle.std.proofs.Common.{◌≡◌, ◌+◌, ◌*◌, ◌^◌, ◌≤ℤ◌, pos, neg_ℤ, drop}
use Rattle.refute_basic.specs.Cycle.{goes_on}
use Rattle.refute_basic.proofs.cycle.goes_on.Given as goal

abbrev pub invariant-loop-k : goal.invariant-loop-k
invariant-loop-k l = record {
  same : goes_on l.model l.look.region l.begin l.at l.sum (drop l.k l.rest) ≡ goes_on l.model l.look.region l.begin l.from l.first l.rest;
  low : neg_ℤ (pos (2 ^ 63 * (l.k + 1))) ≤ℤ l.sum;
  high : l.sum ≤ℤ pos (2 ^ 63 * (l.k + 1));
}
