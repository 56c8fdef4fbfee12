use Rattle.std.proofs.Common.{◌≡◌, ◌++◌, ◌+◌, ◌*◌, ◌-◌, ◌^◌, ◌≤◌, ◌≤ℤ◌, neg_ℤ, pos}
use Rattle.std.specs.List.{flat_map}
use Rattle.svg_page.specs.Axis.{moments, tick}
use Rattle.svg_page.proofs.ticks.push_ticks_by.Given as goal

abbrev pub invariant-loop-left : goal.invariant-loop-left
invariant-loop-left l = record {
  same : l.page.items ++ flat_map (tick l.axis l.height) (moments l.left l.t (pos l.step)) ≡ l.initial.page.items ++ flat_map (tick l.axis l.height) (moments 12 l.initial.t (pos l.step));
  few : l.left ≤ 12;
  low : neg_ℤ (pos (2 ^ 63)) ≤ℤ l.t;
  high : l.t ≤ℤ pos (2 ^ 63 + 2 ^ 32 * (12 - l.left));
}

abbrev pub decreases-loop-left : goal.decreases-loop-left
decreases-loop-left l = l.left
