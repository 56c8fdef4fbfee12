-- Weights and ranks as code computes them.
use Rattle.std.specs.Prelude.{ℕ, ◌*◌, ◌^◌, ℤ, pos, List, [], ◌∷◌, map, length, Option, Some, None, option_map, option_and_then, nat_le, if◌then◌else◌}
use Rattle.sched_model.specs.declared.types.Expr.{Expr, roll-Expr}
use Rattle.sched_model.specs.declared.types.Expr.TheOpen.{Expr-F as expr}
use Rattle.sched_model.specs.declared.types.Objective.{Objective}
use Rattle.sched_model.specs.Words.{all_of, is_empty}
use Rattle.sched_model.specs.Data.{Data}
use Rattle.sched_model.specs.Hull.{hull_of}
use Rattle.sched_model.specs.Rank.{weight}

-- a number, if it is such as a text may have
abbrev pub limited_weight : ℕ → Option ℤ
limited_weight n = if nat_le n (2 ^ 62) then Some (pos n) else None

-- so many times the weight of a criterion behind which these stand
abbrev pub weight_from : Data → ℕ → List Expr → Option ℤ
weight_from m k es = option_and_then (λ rs. limited_weight (k * weight rs)) (all_of (map (hull_of m) es))

abbrev pub weight_of : Data → List Expr → Option ℤ
weight_of m es = weight_from m 1 es

abbrev pub count_of : Option Objective → ℕ
count_of None = 0
count_of (Some o) = if is_empty o.criteria then 1 else length o.criteria

-- the weight of the first of some criteria, if it has a hull
abbrev pub front_weight : Data → List Expr → Option ℤ
front_weight m [] = None
front_weight m (e ∷ es) = option_and_then (λ r. weight_of m es) (hull_of m e)

abbrev pub weights_of : Data → List Expr → Option (List ℤ)
weights_of m [] = Some []
weights_of m (e ∷ es) = option_and_then (λ w. option_map (λ ws. w ∷ ws) (weights_of m es)) (front_weight m (e ∷ es))

abbrev pub times_lit : Expr → ℤ → Expr
times_lit e w = roll-Expr (expr.Product (e ∷ roll-Expr (expr.Lit w) ∷ []))

-- each criterion by its weight
abbrev pub by_weights : List ℤ → List Expr → List Expr
by_weights (w ∷ ws) (e ∷ es) = times_lit e w ∷ by_weights ws es
by_weights _ _ = []
