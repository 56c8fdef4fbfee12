use Rattle.std.proofs.Common.{◌≡◌, ◌⊎◌, ◌<◌, ◌≤◌, ◌-◌, Some, true, false}
use Rattle.region.specs.Tight.{moved, steps}
use Rattle.region.proofs.tightening.tighten_by.Given as goal

abbrev pub invariant-loop-hi : goal.invariant-loop-hi
invariant-loop-hi g l = record {
  apart : l.lo < l.hi;
  within : l.hi ≤ steps l.region.region l.g;
  yes : g.T.GuessTest.refuting l.test (Some (moved l.g l.lo)) ≡ true;
  stop : (l.hi ≡ steps l.region.region l.g) ⊎ (g.T.GuessTest.refuting l.test (Some (moved l.g l.hi)) ≡ false);
}

abbrev pub decreases-loop-hi : goal.decreases-loop-hi
decreases-loop-hi g l = l.hi - l.lo
