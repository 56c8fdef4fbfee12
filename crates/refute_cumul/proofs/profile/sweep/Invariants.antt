use Rattle.std.proofs.Common.{◌≡◌, ◌≤◌, ◌*◌, ◌^◌, ◌≤ℤ◌, neg_ℤ, pos, map, take}
use Rattle.std.specs.Prelude.{vec_len, vec_capacity}
use Rattle.sched_model.specs.Words.{total}
use Rattle.sched_model.specs.Changes.{rise}
use Rattle.refute_cumul.proofs.Changing.{AreLevels}
use Rattle.refute_cumul.proofs.profile.sweep.Given as goal

abbrev pub invariant-loop-i : goal.invariant-loop-i
invariant-loop-i l = record {
  sum : l.level ≡ total (map rise (take l.i l.changes));
  from : neg_ℤ (pos (2 ^ 63 * l.i)) ≤ℤ l.level;
  to : l.level ≤ℤ pos (2 ^ 63 * l.i);
  so_far : AreLevels l.changes l.i l.levels.items;
  few : vec_len l.levels ≤ l.i;
  room : vec_capacity l.levels ≡ vec_capacity l.initial.levels;
}
