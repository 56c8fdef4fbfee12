use Rattle.std.proofs.Common.{◌≡◌, ◌≤◌, length}
use Rattle.std.specs.Prelude.{vec_capacity}
use Rattle.refute_cumul.specs.code.Profiles.{AreReaches}
use Rattle.refute_cumul.proofs.reach.reach_all.Given as goal

abbrev pub invariant-loop-i : goal.invariant-loop-i
invariant-loop-i l = record {
  each : AreReaches l.levels l.reaches.items;
  within : l.i ≤ length l.levels;
  room : vec_capacity l.reaches ≡ vec_capacity l.initial.reaches;
}

abbrev pub decreases-loop-i : goal.decreases-loop-i
decreases-loop-i l = l.i
