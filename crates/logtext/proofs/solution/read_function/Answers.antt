use Rattle.logtext.proofs.Rows.{function_read}
use Rattle.logtext.proofs.solution.read_function.Goals as goal

pub returns : goal.returns
returns c = function_read c.args.words.now c.take_count.new.words c.read_segments.new.words c.in-Some.count c.read_segments.result c.in-Some.ensures.0 c.in-Some.ensures.1 c.read_segments.ensures
