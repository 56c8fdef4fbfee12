use Rattle.std.specs.Prelude.{◌≡◌, ◌*◌, ◌^◌, ◌≤ℤ◌, neg_ℤ, pos, drop, map}
use Rattle.task_sets.specs.Times.{set_p, turned}
use Rattle.refute_seq.specs.Sets.{times_of}
use Rattle.refute_seq.proofs.Walking.{summed}
use Rattle.refute_seq.proofs.sets.set_size.Given as goal

abbrev pub invariant-loop-n : goal.invariant-loop-n
invariant-loop-n l = record {
  whole : summed (turned l.side (times_of l.look.region)) l.sum (drop l.n-index l.set) ≡ set_p (map (turned l.side (times_of l.look.region)) l.set);
  low : neg_ℤ (pos (2 ^ 31 * l.n-index)) ≤ℤ l.sum;
  high : l.sum ≤ℤ pos (2 ^ 31 * l.n-index);
}
