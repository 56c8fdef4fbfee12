use Rattle.std.proofs.Common.{◌≡◌, ◌+ℤ◌, false, int_lt, rules}
use Rattle.cycles.specs.code.Walks.{arc_at}
use Rattle.prop_temporal.specs.code.Heights.{height_with}
use Rattle.prop_temporal.specs.laws.Own.{keep_next}
use Rattle.prop_temporal.proofs.heights.hold_with.Goals as goal

pub loop-k-preserved : goal.loop-k-preserved
loop-k-preserved c =
    let on_time : int_lt (height_with c.args.heights.now c.args.x c.args.pair.start c.args.pair.end (arc_at c.args.arcs.now c.loop-k.k).tail) ((arc_at c.args.arcs.now c.loop-k.k).weight +ℤ height_with c.args.heights.now c.args.x c.args.pair.start c.args.pair.end (arc_at c.args.arcs.now c.loop-k.k).head) ≡ false = search rules in
    keep_next (height_with c.args.heights.now c.args.x c.args.pair.start c.args.pair.end) c.args.arcs.now c.loop-k.k c.loop-k.invariant on_time
