-- Which numbers are values of the objective.
use Rattle.std.specs.Prelude.{◌≡◌, ◌&&◌, ℤ, Bool, Some, IsTrue, int_le}
use Rattle.sched_model.specs.declared.types.Objective.{Objective}
use Rattle.sched_model.specs.Ranges.{Ends}
use Rattle.sched_model.specs.Data.{Data}
use Rattle.sched_model.specs.Hull.{hull_of}

abbrev pub lies_in : Ends → ℤ → Bool
lies_in h v = int_le h.0 v && int_le v h.1

-- a number within the hull of the objective, which the model has
abbrev pub IsValue : Data → ℤ → Type 0
IsValue m v = (o : Objective) × (h : Ends) × (m.objective ≡ Some o) × (hull_of m o.expr ≡ Some h) × IsTrue (lies_in h v)
