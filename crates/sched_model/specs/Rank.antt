-- One number for several criteria, of which an earlier one decides before a later one: the rank.
use Rattle.std.specs.Prelude.{ℕ, ◌+◌, ◌≡◌, ℤ, pos, ◌+ℤ◌, Bool, true, false, ◌&&◌, ◌||◌, if◌then◌else◌, List, [], ◌∷◌, map, length, Option, Some, None, option_map, unwrap_or, is_some, int_lt, nat_le}
use Rattle.std.specs.Ordering.{int_eq}
use Rattle.std.specs.Int.{int_gap}
use Rattle.base_laws.specs.Digits.{size_of, digits}
use Rattle.sched_model.specs.declared.types.Assignment.{Assignment}
use Rattle.sched_model.specs.declared.types.Expr.{Expr, roll-Expr}
use Rattle.sched_model.specs.declared.types.Expr.TheOpen.{Expr-F as expr}
use Rattle.sched_model.specs.declared.types.Objective.{Objective}
use Rattle.sched_model.specs.declared.types.Sense.{Sense}
use Rattle.sched_model.specs.declared.types.Sense.TheVariants.{Minimize, Maximize}
use Rattle.sched_model.specs.Words.{all_of, is_empty}
use Rattle.sched_model.specs.Ranges.{Ends}
use Rattle.sched_model.specs.Data.{Data}
use Rattle.sched_model.specs.Hull.{hull_of}
use Rattle.sched_model.specs.Value.{value_of}

-- how many numbers a range has
abbrev pub width : Ends → ℕ
width r = int_gap r.0 r.1 + 1

-- the weight of a criterion behind which stand others with these ranges
abbrev pub weight : List Ends → ℕ
weight rs = size_of (map width rs)

-- the hulls of some expressions
abbrev pub ranges_of : Data → List Expr → List Ends
ranges_of m es = unwrap_or (all_of (map (hull_of m) es)) []

abbrev pub times : Expr → ℕ → Expr
times e w = roll-Expr (expr.Product (e ∷ roll-Expr (expr.Lit (pos w)) ∷ []))

-- each criterion by its weight
abbrev pub weighted : List Ends → List Expr → List Expr
weighted (r ∷ rs) (e ∷ es) = times e (weight rs) ∷ weighted rs es
weighted _ _ = []

abbrev pub rank_of : Data → List Expr → Expr
rank_of m es = roll-Expr (expr.Sum (weighted (ranges_of m es) es))

-- the criteria of an objective: a plain one is its own one criterion
abbrev pub criteria_of : Objective → List Expr
criteria_of o = if is_empty o.criteria then o.expr ∷ [] else o.criteria

abbrev pub values_of : Assignment → Objective → List ℤ
values_of a o = map (value_of a) (criteria_of o)

-- on the first criterion on which they differ, the first values have the lesser one
abbrev pub comes_first : List ℤ → List ℤ → Bool
comes_first (y ∷ ys) (z ∷ zs) = int_lt y z || (int_eq y z && comes_first ys zs)
comes_first _ _ = false

abbrev pub beats_first : Sense → List ℤ → List ℤ → Bool
beats_first Minimize ys zs = comes_first ys zs
beats_first Maximize ys zs = comes_first zs ys

-- the values that the digits are, each counted from the low end of its range
abbrev pub values_at : List Ends → List ℕ → List ℤ
values_at (r ∷ rs) (d ∷ ds) = (r.0 +ℤ pos d) ∷ values_at rs ds
values_at _ _ = []

abbrev pub low_of : Data → Expr → ℤ
low_of m e = (unwrap_or (hull_of m e) (pos 0, pos 0)).0

-- the values of the criteria of which v is the rank
abbrev pub unranked : Data → Objective → ℤ → List ℤ
unranked m o v = if is_empty o.criteria then v ∷ [] else values_at (ranges_of m o.criteria) (digits (map width (ranges_of m o.criteria)) (int_gap (low_of m o.expr) v))

-- of the objective of a model, of one without an objective none
abbrev pub unranked_in : Data → ℤ → List ℤ
unranked_in m v = unwrap_or (option_map (λ o. unranked m o v) m.objective) []

-- the rank of criteria, if each of them and their rank have a hull
abbrev pub rank_within : Data → List Expr → Option Expr
rank_within m es = if is_some (all_of (map (hull_of m) es)) && is_some (hull_of m (rank_of m es)) then Some (rank_of m es) else None

-- no criteria, or two to eight, each with a hull, and their rank
pub record IsRanked (m : Data) (o : Objective) : Type 0 where
  pub many : (is_empty o.criteria || (nat_le 2 (length o.criteria) && nat_le (length o.criteria) 8)) ≡ true
  pub hulls : is_some (all_of (map (hull_of m) o.criteria)) ≡ true
  pub rank : is_empty o.criteria ≡ false → o.expr ≡ rank_of m o.criteria
