use Rattle.std.proofs.Common.{rules}
use Rattle.std.specs.Prelude.{int_le}
use Rattle.std.proofs.lemmas.List.Sorted.{IsPartitionPoint-from_clause}
use Rattle.refute_cumul.proofs.Placing.{parted, place_from}
use Rattle.refute_cumul.proofs.profile.places_until.Goals as goal

pub returns : goal.returns
returns c = place_from c.args.levels.now c.args.t c.partition_point.result c.partition_point.ensures.bound
    (IsPartitionPoint-from_clause (λ p. int_le p.t c.args.t) _ _ c.partition_point.ensures.partitioned (parted c.args.levels.now c.args.t c.requires) (λ a r q k. search rules))
