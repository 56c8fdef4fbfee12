use Rattle.std.proofs.Common.{◌≡◌, drop, pos}
use Rattle.sched_model.specs.Words.{adjacent}
use Rattle.sched_model.specs.Sequence.{is_apart}
use Rattle.sched_model.proofs.sequence.are_in_line.Given as goal

abbrev pub invariant-loop-i : goal.invariant-loop-i
invariant-loop-i l = adjacent (is_apart l.a (pos 0)) (drop l.i l.xs) ≡ adjacent (is_apart l.a (pos 0)) l.xs
