use Rattle.std.proofs.Common.{◌≡◌, ◌++◌, true, length}
use Rattle.sched_text.specs.Pieces.{interval_names}
use Rattle.read_schedule.specs.code.Reads.{are_all_itvs}
use Rattle.read_schedule.proofs.orders.read_members.Given as goal

abbrev pub invariant-loop-word : goal.invariant-loop-word
invariant-loop-word l = record {
  fit : are_all_itvs l.model l.order ≡ true;
  same : l.fn.words ≡ interval_names l.model l.order ++ l.words;
}

abbrev pub decreases-loop-word : goal.decreases-loop-word
decreases-loop-word l = length l.words
