use Rattle.std.proofs.Common.{◌≡◌, ◌+◌, drop}
use Rattle.std.specs.List.{position_or_len}
use Rattle.sched_model.specs.Data.{same}
use Rattle.sched_model.proofs.distances.place_of.Given as goal

abbrev pub invariant-loop-i : goal.invariant-loop-i
invariant-loop-i l = l.i + position_or_len (same l.x) (drop l.i l.members) ≡ position_or_len (same l.x) l.members
