use Rattle.std.proofs.Common.{rules}
use Rattle.std.proofs.lemmas.List.Sorted.{answers_always}
use Rattle.prop_sets.proofs.Ordering.{rising_from_sort}
use Rattle.prop_sets.proofs.orders.sort.Goals as goal

pub returns-clause-rises : goal.returns-clause-rises
returns-clause-rises c = rising_from_sort c.sort_unstable_by_key.new.self (c.sort_unstable_by_key.ensures.sorted (λ x. x.key) (answers_always _ _ _ (λ f a r q k. search rules)))
