use Rattle.std.proofs.Common.{refl}
use Rattle.svg_page.specs.Bars.{bar}
use Rattle.svg_page.specs.Shades.{shade_in}
use Rattle.svg_page.proofs.Rows.{item_more, items_end}
use Rattle.svg_page.proofs.bars.push_order_bars.Goals as goal

pub loop-x-preserved : goal.loop-x-preserved
loop-x-preserved c = item_more (λ x. bar c.args.model.now c.args.a.now c.args.row (shade_in c.args.model.now c.args.p x.0) x.0) c.args.order.now c.loop-x.x-index _ _ _ _ _ c.loop-x-test.true refl c.loop-x.invariant (rw c.shade_in.ensures at c.in_ok-push_bar.ensures)

pub returns : goal.returns
returns c = items_end (λ x. bar c.args.model.now c.args.a.now c.args.row (shade_in c.args.model.now c.args.p x.0) x.0) c.args.order.now c.loop-x.x-index _ _ c.loop-x-test.false c.loop-x.invariant
