use Rattle.std.proofs.Common.{refl}
use Rattle.svg_page.specs.Texts.{escaped_byte}
use Rattle.svg_page.proofs.Rows.{item_more, items_end}
use Rattle.svg_page.proofs.text.push_name.Goals as goal

pub loop-b-preserved : goal.loop-b-preserved
loop-b-preserved c = item_more escaped_byte c.args.name.now c.loop-b.b-index _ _ _ _ _ c.loop-b-test.true refl c.loop-b.invariant c.in_ok-push_byte.ensures

pub returns : goal.returns
returns c = items_end escaped_byte c.args.name.now c.loop-b.b-index _ _ c.loop-b-test.false c.loop-b.invariant
