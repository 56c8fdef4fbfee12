use Rattle.std.proofs.Common.{◌≡◌, ◌++◌, true, length, flat_map}
use Rattle.sched_text.specs.Answers.{segment_words}
use Rattle.read_schedule.specs.code.Reads.{are_spelled}
use Rattle.read_schedule.proofs.states.read_segments.Given as goal

abbrev pub invariant-loop-words : goal.invariant-loop-words
invariant-loop-words l = record {
  fit : are_spelled l.segments ≡ true;
  same : l.fn.words ≡ flat_map segment_words l.segments ++ l.words;
}

abbrev pub decreases-loop-words : goal.decreases-loop-words
decreases-loop-words l = length l.words
