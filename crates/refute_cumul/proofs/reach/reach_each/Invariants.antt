use Rattle.std.proofs.Common.{◌≡◌}
use Rattle.std.specs.Prelude.{vec_capacity}
use Rattle.refute_cumul.proofs.Placing.{AreReachesUntil}
use Rattle.refute_cumul.proofs.reach.reach_each.Given as goal

abbrev pub invariant-loop-i : goal.invariant-loop-i
invariant-loop-i l = record {
  so_far : AreReachesUntil l.levels l.i l.reaches.items;
  room : vec_capacity l.reaches ≡ vec_capacity l.initial.reaches;
}
