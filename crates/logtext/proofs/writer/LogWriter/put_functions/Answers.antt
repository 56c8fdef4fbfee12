use Rattle.logtext.specs.Spelling.{segments_words}
use Rattle.logtext.proofs.Spaced.{none_so_far, one_more, stops_at}
use Rattle.logtext.proofs.writer.LogWriter.put_functions.Goals as goal

pub loop-segments-init : goal.loop-segments-init
loop-segments-init g c = none_so_far segments_words c.args.functions.now

pub returns-in_err-put_function : goal.returns-in_err-put_function
returns-in_err-put_function g c = stops_at segments_words c.args.functions.now c.loop-segments.segments-index _ _ c.loop-segments-test.true c.segments-item.is c.from_residual.ensures.0 c.loop-segments.invariant (rw c.as_slice.ensures at c.in_err-put_function.ensures)

pub loop-segments-preserved : goal.loop-segments-preserved
loop-segments-preserved g c = one_more segments_words c.args.functions.now c.loop-segments.segments-index _ _ c.loop-segments-test.true c.segments-item.is c.loop-segments.invariant (rw c.as_slice.ensures at c.in_ok-put_function.ensures)
