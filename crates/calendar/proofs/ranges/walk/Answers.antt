use Rattle.std.proofs.Common.{rules, pos}
use Rattle.calendar.specs.declared.step.Pair.{Pair}
use Rattle.calendar.proofs.Walk.{turned}
use Rattle.calendar.proofs.ranges.walk.Goals as goal

pub loop-pair-preserved : goal.loop-pair-preserved
loop-pair-preserved c =
    let d : Pair = record { t = pos 0; v = pos 0 } in
    turned c.loop-pair.ranges.items c.end_range.new.ranges.items _ _ _ _ c.args.pairs.now c.loop-pair.pair-index d c.loop-pair.invariant (search rules) (search rules) (search rules) (search rules) (search rules)
