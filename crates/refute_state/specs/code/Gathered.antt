-- The demands of a state function, in the order of the constraints.
use Rattle.std.specs.Prelude.{ℕ, Bool, List, length, nat_eq}
use Rattle.std.specs.List.{filter, range_with_len}
use Rattle.sched_model.specs.Data.{Data}
use Rattle.refute_state.specs.Demands.{of_demand}

-- the constraint is a demand of state function g
abbrev pub demands_at : Data → ℕ → ℕ → Bool
demands_at m g c = of_demand m c (λ d. nat_eq d.g.0 g)

abbrev pub demands_below : Data → ℕ → ℕ → List ℕ
demands_below m g n = filter (demands_at m g) (range_with_len 0 n)

-- the demands of state function g, in the order of the constraints
abbrev pub demands_of : Data → ℕ → List ℕ
demands_of m g = demands_below m g (length m.constraints)
