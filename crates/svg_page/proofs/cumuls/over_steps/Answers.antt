use Rattle.svg_page.specs.Cumuls.{over_step}
use Rattle.svg_page.proofs.Rows.{fold_more, fold_end}
use Rattle.svg_page.proofs.cumuls.over_steps.Goals as goal

pub loop-s-preserved : goal.loop-s-preserved
loop-s-preserved c = fold_more over_step c.args.steps.now c.loop-s.s-index _ _ _ _ c.loop-s-test.true c.loop-s.invariant c.over_step-reach.ensures

pub returns : goal.returns
returns c = fold_end over_step c.args.steps.now c.loop-s.s-index _ _ c.loop-s-test.false c.loop-s.invariant
