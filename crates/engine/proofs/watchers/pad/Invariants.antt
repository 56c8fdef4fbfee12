use Rattle.std.proofs.Common.{◌-◌, ◌+◌, length}
use Rattle.engine.specs.code.Noted.{IsPadded}
use Rattle.engine.proofs.watchers.pad.Given as goal

abbrev pub invariant-loop-alloc : goal.invariant-loop-alloc
invariant-loop-alloc l = IsPadded l.initial.lists.items l.lists.items

abbrev pub decreases-loop-alloc : goal.decreases-loop-alloc
decreases-loop-alloc l = l.n + 1 - length l.lists.items
