use Rattle.std.proofs.Common.{◌≡◌, map, fold, ◌++◌, ◌*◌, ◌^◌, drop, pos, neg_ℤ, ◌+ℤ◌, ◌≤ℤ◌, ◌&&◌, ◌||◌}
use Rattle.std.specs.Option.{option_to_list}
use Rattle.std.specs.List.{list_all, list_any}
use Rattle.sched_model.specs.Words.{total}
use Rattle.sched_model.specs.Ranges.{lows, highs, greatest_range, least_range}
use Rattle.look_hull.specs.LookHull.{surely_true, surely_false}
use Rattle.sched_model.specs.code.Saturated.{saturated_range}
use Rattle.look_hull.specs.code.Saturated.{saturated_look, saturated_product}
use Rattle.look_hull.proofs.hull.+hull.Given as goal

abbrev pub invariant-sum_of-loop-part : goal.invariant-sum_of-loop-part
invariant-sum_of-loop-part l = record {
  low : l.lo +ℤ total (lows (map (saturated_look l.model l.look.region) (drop l.part-index l.parts))) ≡ total (lows (map (saturated_look l.model l.look.region) l.parts));
  high : l.hi +ℤ total (highs (map (saturated_look l.model l.look.region) (drop l.part-index l.parts))) ≡ total (highs (map (saturated_look l.model l.look.region) l.parts));
  lo_from : neg_ℤ (pos (2 ^ 63 * l.part-index)) ≤ℤ l.lo;
  lo_to : l.lo ≤ℤ pos (2 ^ 63 * l.part-index);
  hi_from : neg_ℤ (pos (2 ^ 63 * l.part-index)) ≤ℤ l.hi;
  hi_to : l.hi ≤ℤ pos (2 ^ 63 * l.part-index);
}

abbrev pub invariant-product_of-loop-part : goal.invariant-product_of-loop-part
invariant-product_of-loop-part l = fold saturated_range l.so_far (map (saturated_look l.model l.look.region) (drop l.part-index l.parts)) ≡ saturated_product (map (saturated_look l.model l.look.region) l.parts)

abbrev pub invariant-greatest_of-loop-part : goal.invariant-greatest_of-loop-part
invariant-greatest_of-loop-part l = greatest_range (option_to_list l.so_far ++ map (saturated_look l.model l.look.region) (drop l.part-index l.parts)) ≡ greatest_range (map (saturated_look l.model l.look.region) l.parts)

abbrev pub invariant-least_of-loop-part : goal.invariant-least_of-loop-part
invariant-least_of-loop-part l = least_range (option_to_list l.so_far ++ map (saturated_look l.model l.look.region) (drop l.part-index l.parts)) ≡ least_range (map (saturated_look l.model l.look.region) l.parts)

abbrev pub invariant-all_of-loop-part : goal.invariant-all_of-loop-part
invariant-all_of-loop-part l = record {
  always : (l.always && list_all surely_true (map (saturated_look l.model l.look.region) (drop l.part-index l.parts))) ≡ list_all surely_true (map (saturated_look l.model l.look.region) l.parts);
  never : (l.never || list_any surely_false (map (saturated_look l.model l.look.region) (drop l.part-index l.parts))) ≡ list_any surely_false (map (saturated_look l.model l.look.region) l.parts);
}

abbrev pub invariant-some_of-loop-part : goal.invariant-some_of-loop-part
invariant-some_of-loop-part l = record {
  always : (l.always || list_any surely_true (map (saturated_look l.model l.look.region) (drop l.part-index l.parts))) ≡ list_any surely_true (map (saturated_look l.model l.look.region) l.parts);
  never : (l.never && list_all surely_false (map (saturated_look l.model l.look.region) (drop l.part-index l.parts))) ≡ list_all surely_false (map (saturated_look l.model l.look.region) l.parts);
}
