use Rattle.std.proofs.Common.{◌∙◌, ◌++◌, ap}
use Rattle.svg_page.specs.Cumuls.{areas, areas_of}
use Rattle.svg_page.proofs.Rows.{item_more, items_end}
use Rattle.svg_page.proofs.cumuls.push_all_areas.Goals as goal

pub loop-c-preserved : goal.loop-c-preserved
loop-c-preserved c =
    item_more (areas c.args.axis c.args.a.now c.args.k c.args.r) c.args.constraints.now c.loop-c.c-index c.c-item.result _ _ _ _ c.loop-c-test.true c.c-item.is c.loop-c.invariant
    (c.in_ok-push_areas_of.ensures ∙ ap (λ b. c.loop-c.page.items ++ areas_of c.args.axis c.args.a.now c.args.k c.args.r b) c.bound_in.ensures)

pub returns : goal.returns
returns c = items_end (areas c.args.axis c.args.a.now c.args.k c.args.r) c.args.constraints.now c.loop-c.c-index _ _ c.loop-c-test.false c.loop-c.invariant
