use Rattle.std.proofs.Common.{◌≡◌, ◌++◌, true, length}
use Rattle.std.specs.List.{list_all, flat_map}
use Rattle.kernel.specs.Fit.{are_fit_segments}
use Rattle.logtext.specs.Spelling.{segments_words}
use Rattle.logtext.proofs.solution.read_functions.Given as goal

abbrev pub invariant-loop-segments : goal.invariant-loop-segments
invariant-loop-segments l = record {
  fit : list_all are_fit_segments l.functions ≡ true;
  same : l.fn.words ≡ flat_map segments_words l.functions ++ l.words;
}

abbrev pub decreases-loop-segments : goal.decreases-loop-segments
decreases-loop-segments l = length l.words
