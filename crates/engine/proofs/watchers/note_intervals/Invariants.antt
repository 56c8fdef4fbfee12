use Rattle.std.proofs.Common.{take}
use Rattle.engine.specs.code.Noted.{Noted}
use Rattle.engine.proofs.watchers.note_intervals.Given as goal

abbrev pub invariant-loop-x : goal.invariant-loop-x
invariant-loop-x l = Noted l.k (λ y. y.0) (take l.x-index l.xs) l.initial.lists.items l.lists.items
