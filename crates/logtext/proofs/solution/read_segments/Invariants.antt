use Rattle.std.proofs.Common.{◌≡◌, ◌++◌, true, length}
use Rattle.std.specs.List.{list_all}
use Rattle.kernel.specs.Fit.{is_fit_segment}
use Rattle.logtext.specs.code.Reads.{rows_words}
use Rattle.logtext.proofs.solution.read_segments.Given as goal

abbrev pub invariant-loop-i : goal.invariant-loop-i
invariant-loop-i l = record {
  fit : list_all is_fit_segment l.segments ≡ true;
  many : length l.segments ≡ l._i;
  same : l.fn.words ≡ rows_words l.segments ++ l.words;
}
