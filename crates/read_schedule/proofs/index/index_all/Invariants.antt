use Rattle.std.proofs.Common.{◌≡◌, take}
use Rattle.read_schedule.specs.code.Reads.{numbered}
use Rattle.read_schedule.proofs.index.index_all.Given as goal

abbrev pub invariant-loop-i : goal.invariant-loop-i
invariant-loop-i l = l.index ≡ numbered 0 (take l.i l.defs)
