use Rattle.std.proofs.Common.{◌≡◌, ◌∙◌, arith, rules, to_z, of_z, w64}
use Rattle.std.specs.Int.{w128}
use Rattle.std.proofs.lemmas.Int.{ints}
use Rattle.sched_model.specs.code.Saturated.{saturated_value}
use Rattle.sched_model.proofs.walks.Valued.{total_turn, product_turn, greatest_turn, least_turn}
use Rattle.sched_model.proofs.values.+value_of.Goals as goal

pub sum_of-loop-part-preserved : goal.sum_of-loop-part-preserved
sum_of-loop-part-preserved g t c = record {
  same = total_turn (saturated_value (g.S.Slots.meaning c.args.slots.now)) c.args.parts.now c.loop-part.part-index c.part-item.result _ _ _ _ c.loop-part.invariant.same (omega arith) c.part-item.is c.value_of.ensures (omega (arith, ints));
  from = omega (arith, ints);
  to = omega (arith, ints);
}

pub product_of-loop-part-preserved : goal.product_of-loop-part-preserved
product_of-loop-part-preserved g t c =
    let back : to_z w64 (of_z w64 c.value_of.result) ≡ c.value_of.result = search rules in
    let kept : to_z w128 (of_z w128 c.scaled-product.result) ≡ c.scaled-product.result = search rules in
    product_turn (saturated_value (g.S.Slots.meaning c.args.slots.now)) c.args.parts.now c.loop-part.part-index c.part-item.result (to_z w64 (of_z w64 c.value_of.result)) _ (to_z w128 (of_z w128 c.scaled-product.result)) _
    c.loop-part.invariant (omega arith) c.part-item.is (back ∙ c.value_of.ensures) (kept ∙ c.scaled-product.ensures)

pub greatest_of-loop-part-preserved : goal.greatest_of-loop-part-preserved
greatest_of-loop-part-preserved g t c =
    let back : to_z w64 (of_z w64 c.value_of.result) ≡ c.value_of.result = search rules in
    let kept : to_z w64 (of_z w64 c.greater.result) ≡ c.greater.result = search rules in
    greatest_turn (saturated_value (g.S.Slots.meaning c.args.slots.now)) c.args.parts.now c.loop-part.part-index c.part-item.result (to_z w64 (of_z w64 c.value_of.result)) _ (to_z w64 (of_z w64 c.greater.result)) _
    c.loop-part.invariant (omega arith) c.part-item.is (back ∙ c.value_of.ensures) (kept ∙ c.greater.ensures)

pub least_of-loop-part-preserved : goal.least_of-loop-part-preserved
least_of-loop-part-preserved g t c =
    let back : to_z w64 (of_z w64 c.value_of.result) ≡ c.value_of.result = search rules in
    let kept : to_z w64 (of_z w64 c.lesser.result) ≡ c.lesser.result = search rules in
    least_turn (saturated_value (g.S.Slots.meaning c.args.slots.now)) c.args.parts.now c.loop-part.part-index c.part-item.result (to_z w64 (of_z w64 c.value_of.result)) _ (to_z w64 (of_z w64 c.lesser.result)) _
    c.loop-part.invariant (omega arith) c.part-item.is (back ∙ c.value_of.ensures) (kept ∙ c.lesser.ensures)
