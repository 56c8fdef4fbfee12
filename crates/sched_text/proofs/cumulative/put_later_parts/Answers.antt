use Rattle.std.proofs.Common.{refl}
use Rattle.sched_text.specs.Canonical.{later_part}
use Rattle.sched_text.proofs.Rows.{text_more, texts_end}
use Rattle.sched_text.proofs.Printing.{none_yet}
use Rattle.sched_text.proofs.cumulative.put_later_parts.Goals as goal

pub loop-part-init : goal.loop-part-init
loop-part-init g c = none_yet refl

pub loop-part-preserved : goal.loop-part-preserved
loop-part-preserved g c = text_more (later_part c.args.model.now) c.args.parts.now c.loop-part.part-index _ _ c.loop-part-test.true refl c.loop-part.invariant c.put_later_part.ensures

pub returns : goal.returns
returns g c = texts_end (later_part c.args.model.now) c.args.parts.now c.loop-part.part-index c.loop-part-test.false c.loop-part.invariant
