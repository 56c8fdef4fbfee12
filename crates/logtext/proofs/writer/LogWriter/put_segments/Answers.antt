use Rattle.std.proofs.Common.{refl}
use Rattle.logtext.specs.Spelling.{segment_words}
use Rattle.logtext.proofs.Spaced.{none_so_far, one_more, stops_at}
use Rattle.logtext.proofs.writer.LogWriter.put_segments.Goals as goal

pub loop-segment-init : goal.loop-segment-init
loop-segment-init g c = none_so_far segment_words c.args.segments.now

pub returns-in_err-put_segment : goal.returns-in_err-put_segment
returns-in_err-put_segment g c = stops_at segment_words c.args.segments.now c.loop-segment.segment-index _ _ c.loop-segment-test.true refl c.from_residual.ensures.0 c.loop-segment.invariant c.in_err-put_segment.ensures

pub loop-segment-preserved : goal.loop-segment-preserved
loop-segment-preserved g c = one_more segment_words c.args.segments.now c.loop-segment.segment-index _ _ c.loop-segment-test.true refl c.loop-segment.invariant c.in_ok-put_segment.ensures
