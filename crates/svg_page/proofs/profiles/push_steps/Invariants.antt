use Rattle.std.proofs.Common.{◌≡◌, ◌++◌, ◌*◌, ◌^◌, ◌≤ℤ◌, neg_ℤ, pos, drop}
use Rattle.svg_page.specs.Profiles.{steps}
use Rattle.svg_page.proofs.profiles.push_steps.Given as goal

abbrev pub invariant-loop-i : goal.invariant-loop-i
invariant-loop-i l = record {
  same : l.shown.items ++ steps l.level (drop l.i l.changes) ≡ l.initial.shown.items ++ steps (pos 0) l.changes;
  low : neg_ℤ (pos (2 ^ 63 * l.i)) ≤ℤ l.level;
  high : l.level ≤ℤ pos (2 ^ 63 * l.i);
}
