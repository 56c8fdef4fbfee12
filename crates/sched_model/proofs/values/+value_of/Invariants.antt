use Rattle.std.proofs.Common.{◌≡◌, map, fold, ◌++◌, ◌*◌, ◌^◌, drop, pos, neg_ℤ, ◌+ℤ◌, ◌*ℤ◌, ◌≤ℤ◌}
use Rattle.std.specs.Int.{saturate_signed, w128}
use Rattle.std.specs.List.{list_all, list_any}
use Rattle.std.specs.Option.{option_to_list}
use Rattle.sched_model.specs.Words.{total, greatest, least}
use Rattle.sched_model.specs.Value.{is_true}
use Rattle.sched_model.specs.code.Saturated.{saturated_product, saturated_value}
use Rattle.sched_model.proofs.values.+value_of.Given as goal

abbrev pub invariant-sum_of-loop-part : goal.invariant-sum_of-loop-part
invariant-sum_of-loop-part g l = record {
  same : l.sum +ℤ total (map (saturated_value (g.S.Slots.meaning l.slots)) (drop l.part-index l.parts)) ≡ total (map (saturated_value (g.S.Slots.meaning l.slots)) l.parts);
  from : neg_ℤ (pos (2 ^ 63 * l.part-index)) ≤ℤ l.sum;
  to : l.sum ≤ℤ pos (2 ^ 63 * l.part-index);
}

abbrev pub invariant-product_of-loop-part : goal.invariant-product_of-loop-part
invariant-product_of-loop-part g l = fold (λ p z. saturate_signed w128 (p *ℤ z)) l.product (map (saturated_value (g.S.Slots.meaning l.slots)) (drop l.part-index l.parts)) ≡ saturated_product (map (saturated_value (g.S.Slots.meaning l.slots)) l.parts)

abbrev pub invariant-greatest_of-loop-part : goal.invariant-greatest_of-loop-part
invariant-greatest_of-loop-part g l = greatest (option_to_list l.so_far ++ map (saturated_value (g.S.Slots.meaning l.slots)) (drop l.part-index l.parts)) ≡ greatest (map (saturated_value (g.S.Slots.meaning l.slots)) l.parts)

abbrev pub invariant-least_of-loop-part : goal.invariant-least_of-loop-part
invariant-least_of-loop-part g l = least (option_to_list l.so_far ++ map (saturated_value (g.S.Slots.meaning l.slots)) (drop l.part-index l.parts)) ≡ least (map (saturated_value (g.S.Slots.meaning l.slots)) l.parts)

abbrev pub invariant-are_true-loop-part : goal.invariant-are_true-loop-part
invariant-are_true-loop-part g l = list_all is_true (map (saturated_value (g.S.Slots.meaning l.slots)) (drop l.part-index l.parts)) ≡ list_all is_true (map (saturated_value (g.S.Slots.meaning l.slots)) l.parts)

abbrev pub invariant-some_true-loop-part : goal.invariant-some_true-loop-part
invariant-some_true-loop-part g l = list_any is_true (map (saturated_value (g.S.Slots.meaning l.slots)) (drop l.part-index l.parts)) ≡ list_any is_true (map (saturated_value (g.S.Slots.meaning l.slots)) l.parts)
