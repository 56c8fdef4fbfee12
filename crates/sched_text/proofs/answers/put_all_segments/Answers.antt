use Rattle.std.proofs.Common.{refl}
use Rattle.textline.specs.Lines.{spaced}
use Rattle.sched_text.specs.Answers.{segment_words}
use Rattle.sched_text.proofs.Rows.{text_more, texts_end}
use Rattle.sched_text.proofs.Printing.{none_yet}
use Rattle.sched_text.proofs.answers.put_all_segments.Goals as goal

pub loop-s-init : goal.loop-s-init
loop-s-init g c = none_yet refl

pub loop-s-preserved : goal.loop-s-preserved
loop-s-preserved g c = text_more (λ s. spaced (segment_words s)) c.args.segments.now c.loop-s.s-index _ _ c.loop-s-test.true refl c.loop-s.invariant c.put_segment.ensures

pub returns : goal.returns
returns g c = texts_end (λ s. spaced (segment_words s)) c.args.segments.now c.loop-s.s-index c.loop-s-test.false c.loop-s.invariant
