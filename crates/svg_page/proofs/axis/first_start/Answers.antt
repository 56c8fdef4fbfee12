use Rattle.std.proofs.Common.{rules, SFits, w64}
use Rattle.std.proofs.lemmas.Int.{to_z-of_z}
use Rattle.svg_page.specs.Axis.{sooner}
use Rattle.svg_page.proofs.Rows.{fold_more, fold_end}
use Rattle.svg_page.proofs.axis.first_start.Goals as goal

pub loop-slot-preserved : goal.loop-slot-preserved
loop-slot-preserved c =
    let fits : SFits w64 c.sooner-t.result = search rules in
    simp to_z-of_z (fold_more sooner c.args.slots.now c.loop-slot.slot-index _ _ _ _ c.loop-slot-test.true c.loop-slot.invariant c.sooner-t.ensures)

pub returns : goal.returns
returns c = fold_end sooner c.args.slots.now c.loop-slot.slot-index _ _ c.loop-slot-test.false c.loop-slot.invariant
