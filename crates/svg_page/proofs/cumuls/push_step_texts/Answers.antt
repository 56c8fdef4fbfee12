use Rattle.std.proofs.Common.{refl}
use Rattle.svg_page.specs.Cumuls.{step_text}
use Rattle.svg_page.proofs.Rows.{item_more, items_end}
use Rattle.svg_page.proofs.cumuls.push_step_texts.Goals as goal

pub loop-s-preserved : goal.loop-s-preserved
loop-s-preserved c = item_more step_text c.args.steps.now c.loop-s.s-index _ _ _ _ _ c.loop-s-test.true refl c.loop-s.invariant c.in_ok-push_step_text.ensures

pub returns : goal.returns
returns c = items_end step_text c.args.steps.now c.loop-s.s-index _ _ c.loop-s-test.false c.loop-s.invariant
