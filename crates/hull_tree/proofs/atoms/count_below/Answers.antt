use Rattle.std.specs.Prelude.{nat_lt}
use Rattle.std.proofs.Common.{rules}
use Rattle.std.proofs.lemmas.List.Sorted.{IsPartitionedBy-ltb, IsPartitionPoint-from_clause}
use Rattle.hull_tree.specs.code.Atoms.{key_of}
use Rattle.hull_tree.proofs.atoms.count_below.Goals as goal

pub returns-clause-point : goal.returns-clause-point
returns-clause-point c = IsPartitionPoint-from_clause (λ a. nat_lt (key_of a) c.args.key) _ _ c.partition_point.ensures.partitioned (IsPartitionedBy-ltb key_of c.args.atoms.now c.args.key c.requires) (λ a r q k. search rules)
