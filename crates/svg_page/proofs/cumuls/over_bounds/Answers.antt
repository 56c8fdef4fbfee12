use Rattle.std.proofs.Common.{◌∙◌, ap}
use Rattle.svg_page.specs.Cumuls.{over_bound}
use Rattle.svg_page.proofs.Rows.{fold_more, fold_end}
use Rattle.svg_page.proofs.cumuls.over_bounds.Goals as goal

pub loop-c-preserved : goal.loop-c-preserved
loop-c-preserved c = fold_more (over_bound c.args.k) c.args.constraints.now c.loop-c.c-index c.c-item.result _ _ _ c.loop-c-test.true c.loop-c.invariant (c.over_bound-reach.ensures ∙ ap ((over_bound c.args.k) c.loop-c.reach) c.c-item.is)

pub returns : goal.returns
returns c = fold_end (over_bound c.args.k) c.args.constraints.now c.loop-c.c-index _ _ c.loop-c-test.false c.loop-c.invariant
