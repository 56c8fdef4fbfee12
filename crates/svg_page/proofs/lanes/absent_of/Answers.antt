use Rattle.std.proofs.Common.{◌∙◌, refl, ap, ◌++◌}
use Rattle.svg_page.specs.Texts.{numbered}
use Rattle.svg_page.specs.Lanes.{absent_at}
use Rattle.svg_page.proofs.Rows.{place_more, places_end}
use Rattle.svg_page.proofs.lanes.absent_of.Goals as goal

pub loop-i-preserved : goal.loop-i-preserved
loop-i-preserved c = place_more absent_at c.args.slots.now c.loop-i.i _ _ _ _ _ c.loop-i-test.true refl c.loop-i.invariant c.in_ok-push_absent_at.ensures

pub returns : goal.returns
returns c = places_end absent_at c.args.slots.now c.loop-i.i _ _ c.loop-i-test.false c.loop-i.invariant
    ∙ ap (λ v. v ++ numbered absent_at 0 c.args.slots.now) c.new-absent.ensures.items
