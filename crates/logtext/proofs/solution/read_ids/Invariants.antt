use Rattle.std.proofs.Common.{◌≡◌, ◌++◌, true, length}
use Rattle.std.specs.List.{list_all}
use Rattle.kernel.specs.Fit.{is_id}
use Rattle.logtext.specs.code.Reads.{ids_words}
use Rattle.logtext.proofs.solution.read_ids.Given as goal

abbrev pub invariant-loop-i : goal.invariant-loop-i
invariant-loop-i l = record {
  fit : list_all is_id l.ids ≡ true;
  many : length l.ids ≡ l._i;
  same : l.fn.words ≡ ids_words l.ids ++ l.words;
}
