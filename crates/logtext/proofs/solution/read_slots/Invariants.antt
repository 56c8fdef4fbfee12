use Rattle.std.proofs.Common.{◌≡◌, ◌++◌, true, length}
use Rattle.std.specs.List.{list_all, flat_map}
use Rattle.kernel.specs.Fit.{is_fit_slot}
use Rattle.logtext.specs.Spelling.{slot_words}
use Rattle.logtext.proofs.solution.read_slots.Given as goal

abbrev pub invariant-loop-slot : goal.invariant-loop-slot
invariant-loop-slot l = record {
  fit : list_all is_fit_slot l.slots ≡ true;
  same : l.fn.words ≡ flat_map slot_words l.slots ++ l.words;
}

abbrev pub decreases-loop-slot : goal.decreases-loop-slot
decreases-loop-slot l = length l.words
