use Rattle.std.specs.Prelude.{codes}
use Rattle.kernel.specs.Fit.{are_fit_segments}
use Rattle.logtext.specs.Spelling.{segments_words}
use Rattle.logtext.specs.code.Reads.{BeginsWith}
use Rattle.logtext.specs.laws.Told.{segments_told, function_starts}
use Rattle.logtext.proofs.Rows.{row_fails}
use Rattle.logtext.proofs.solution.read_functions.Goals as goal

pub returns-in-Err : goal.returns-in-Err
returns-in-Err c =
    row_fails segments_words are_fit_segments (BeginsWith (codes "g")) segments_told function_starts c.loop-segments.functions c.args.words.now c.loop-segments.words c.next_function.new.words c.next_function.new.words c.in-Err.fault c.loop-segments.invariant.fit c.loop-segments.invariant.same c.in-Err.ensures
