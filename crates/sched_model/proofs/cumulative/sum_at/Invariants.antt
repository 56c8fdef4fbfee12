use Rattle.std.proofs.Common.{◌≡◌, map, ◌*◌, ◌^◌, drop, pos, neg_ℤ, ◌+ℤ◌, ◌≤ℤ◌}
use Rattle.sched_model.specs.Words.{total}
use Rattle.sched_model.specs.Cumulative.{shape_at, signed}
use Rattle.sched_model.proofs.cumulative.sum_at.Given as goal

abbrev pub invariant-loop-part : goal.invariant-loop-part
invariant-loop-part l = record {
  same : l.sum +ℤ total (map (λ i. signed i.minus (shape_at l.a i.shape l.t)) (drop l.part-index l.parts)) ≡ total (map (λ i. signed i.minus (shape_at l.a i.shape l.t)) l.parts);
  from : neg_ℤ (pos (2 ^ 63 * l.part-index)) ≤ℤ l.sum;
  to : l.sum ≤ℤ pos (2 ^ 63 * l.part-index);
}
