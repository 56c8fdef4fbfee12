use Rattle.std.proofs.Common.{◌≡◌, map, ◌*◌, ◌^◌, drop, pos, neg_ℤ, ◌+ℤ◌, ◌≤ℤ◌}
use Rattle.sched_model.specs.Words.{total}
use Rattle.refute_cumul.specs.code.Loads.{load_of, bounded}
use Rattle.refute_cumul.proofs.levels.load.Given as goal

abbrev pub invariant-loop-part : goal.invariant-loop-part
invariant-loop-part l = record {
  same : l.sum +ℤ total (map (λ i. load_of (bounded l.look.region l.below i) l.t) (drop l.part-index l.parts)) ≡ total (map (λ i. load_of (bounded l.look.region l.below i) l.t) l.parts);
  from : neg_ℤ (pos (2 ^ 63 * l.part-index)) ≤ℤ l.sum;
  to : l.sum ≤ℤ pos (2 ^ 63 * l.part-index);
}
