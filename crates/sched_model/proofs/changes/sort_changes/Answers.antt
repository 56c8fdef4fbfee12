use Rattle.std.proofs.Common.{rules}
use Rattle.std.proofs.lemmas.List.Sorted.{answers_always}
use Rattle.sched_model.specs.laws.Sums.{in_order_from_sort}
use Rattle.sched_model.proofs.changes.sort_changes.Goals as goal

pub returns-clause-in_order : goal.returns-clause-in_order
returns-clause-in_order c = in_order_from_sort c.sort_unstable_by_key.new.self (c.sort_unstable_by_key.ensures.sorted (λ x. x.t) (answers_always _ _ _ (λ f a r q k. search rules)))
