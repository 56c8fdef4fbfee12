use Rattle.std.proofs.Common.{take}
use Rattle.engine.specs.code.Noted.{Noted}
use Rattle.engine.proofs.watchers.note_sequences.Given as goal

abbrev pub invariant-loop-p : goal.invariant-loop-p
invariant-loop-p l = Noted l.k (λ y. y.0) (take l.p-index l.ps) l.initial.lists.items l.lists.items
