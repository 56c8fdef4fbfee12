use Rattle.std.proofs.Common.{◌≡◌, ◌+◌, ◌++◌, drop, length}
use Rattle.std.specs.Vec.Iter.{into_iter_items, into_iter_len}
use Rattle.sched_model.specs.code.Ranks.{by_weights}
use Rattle.sched_model.proofs.ranking.weigh.Given as goal

abbrev pub invariant-loop-e : goal.invariant-loop-e
invariant-loop-e l = record {
  count : into_iter_len l.e-iterator ≡ length (into_iter_items l.e-iterator);
  long : l.at + length (into_iter_items l.e-iterator) ≡ length l.weights;
  all : l.parts ++ by_weights (drop l.at l.weights) (into_iter_items l.e-iterator) ≡ by_weights l.weights l.fn.criteria;
}
