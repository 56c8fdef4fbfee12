use Rattle.std.proofs.Common.{arith}
use Rattle.std.proofs.lemmas.Int.{ints}
use Rattle.look_hull.specs.code.Saturated.{saturated_look}
use Rattle.look_hull.proofs.Turns.{low_turn, high_turn}
use Rattle.look_hull.proofs.hull.+hull.Goals as goal

pub sum_of-loop-part-preserved : goal.sum_of-loop-part-preserved
sum_of-loop-part-preserved t c = record {
  low = low_turn (saturated_look c.args.model.now c.args.look.now.region) c.args.parts.now c.loop-part.part-index c.part-item.result c.ends_of-l.result _ _ _ c.loop-part.invariant.low (omega arith) c.part-item.is c.ends_of-l.ensures (omega (arith, ints));
  high = high_turn (saturated_look c.args.model.now c.args.look.now.region) c.args.parts.now c.loop-part.part-index c.part-item.result c.ends_of-l.result _ _ _ c.loop-part.invariant.high (omega arith) c.part-item.is c.ends_of-l.ensures (omega (arith, ints));
  lo_from = omega (arith, ints);
  lo_to = omega (arith, ints);
  hi_from = omega (arith, ints);
  hi_to = omega (arith, ints);
}
