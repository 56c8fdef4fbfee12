use Rattle.std.proofs.Common.{◌≡◌, ◌+◌, drop}
use Rattle.std.specs.List.{list_all}
use Rattle.sched_model.specs.Data.{gap}
use Rattle.sched_model.specs.Sequence.{is_apart}
use Rattle.sched_model.proofs.sequence.is_apart_from_later.Given as goal

abbrev pub invariant-loop-j : goal.invariant-loop-j
invariant-loop-j l = list_all (λ y. is_apart l.a (gap l.model l.p l.matrix l.x y) l.x y) (drop l.j l.xs) ≡ list_all (λ y. is_apart l.a (gap l.model l.p l.matrix l.x y) l.x y) (drop (l.i + 1) l.xs)
