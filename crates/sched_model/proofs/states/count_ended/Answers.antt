use Rattle.std.proofs.Common.{rules}
use Rattle.std.specs.Prelude.{int_le}
use Rattle.std.proofs.lemmas.List.Sorted.{IsPartitionPoint-from_clause}
use Rattle.sched_model.proofs.rows.Behind.{ended_first}
use Rattle.sched_model.proofs.states.count_ended.Goals as goal

pub returns : goal.returns
returns c = IsPartitionPoint-from_clause (λ i. int_le i.q c.args.t) _ _ c.partition_point.ensures.partitioned (ended_first c.args.is.now c.args.t c.requires) (λ a r q k. search rules)
