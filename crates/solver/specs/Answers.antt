-- What an answer says of its model, and of the log that leads to it.
use Rattle.std.specs.Prelude.{◌≡◌, ℤ, Bool, true, false, Option, Some, None, option_map}
use Rattle.sched_model.specs.declared.types.Assignment.{Assignment}
use Rattle.sched_model.specs.declared.types.Answer.{Answer}
use Rattle.sched_model.specs.declared.types.Answer.TheVariants.{Optimal, Feasible, Infeasible, Unfinished}
use Rattle.sched_model.specs.Data.{Data}
use Rattle.sched_model.specs.Solution.{IsSolution, Better, objective_of}

-- a solution of this value: that of the objective's expression, with criteria their rank
pub record IsSolutionOf (m : Data) (v : ℤ) (a : Assignment) : Type 0 where
  pub solution : IsSolution m a
  pub value : objective_of m a ≡ Some v

-- a solution of a model without an objective
pub record IsPlainSolution (m : Data) (a : Assignment) : Type 0 where
  pub solution : IsSolution m a
  pub plain : m.objective ≡ None

-- a solution of this value, and no solution is better
pub record IsBest (m : Data) (v : ℤ) (a : Assignment) : Type 0 where
  pub is_one : IsSolutionOf m v a
  pub none_better : (b : Assignment) → IsSolution m b → Better m b a → ⊥

abbrev pub HasNoSolution : Data → Type 0
HasNoSolution m = (a : Assignment) → IsSolution m a → ⊥

abbrev pub IfFound : Data → Option (ℤ × Assignment) → Type 0
IfFound m None = Unit {0}
IfFound m (Some va) = IsSolutionOf m va.0 va.1

-- what an answer says is so
abbrev pub IsAnswer : Data → Answer → Type 0
IsAnswer m (Optimal v a) = IsBest m v a
IsAnswer m (Feasible a) = IsPlainSolution m a
IsAnswer m Infeasible = HasNoSolution m
IsAnswer m (Unfinished found) = IfFound m found

abbrev pub is_unfinished : Answer → Bool
is_unfinished (Unfinished found) = true
is_unfinished _ = false

-- the schedule in it
abbrev pub shown_in : Answer → Option Assignment
shown_in (Optimal v a) = Some a
shown_in (Feasible a) = Some a
shown_in Infeasible = None
shown_in (Unfinished found) = option_map (λ va. va.1) found
