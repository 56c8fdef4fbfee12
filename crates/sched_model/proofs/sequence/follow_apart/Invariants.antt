use Rattle.std.proofs.Common.{◌≡◌, ◌∷◌, drop}
use Rattle.sched_model.specs.Words.{adjacent}
use Rattle.sched_model.specs.Data.{gap, type_of}
use Rattle.sched_model.specs.Sequence.{is_apart}
use Rattle.sched_model.proofs.sequence.follow_apart.Given as goal

abbrev pub invariant-loop-y : goal.invariant-loop-y
invariant-loop-y l = record {
  of : l.from ≡ type_of l.model l.p l.before;
  rest : adjacent (λ x y. is_apart l.a (gap l.model l.p l.matrix x y) x y) (l.before ∷ drop l.y-index l.ys) ≡ adjacent (λ x y. is_apart l.a (gap l.model l.p l.matrix x y) x y) (l.fn.x ∷ l.ys);
}
