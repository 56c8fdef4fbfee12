-- What the bound is by the verdict.
use Rattle.std.specs.Prelude.{◌≡◌, ℤ, List, [], ◌∷◌, ◌++◌, Option, Some, None, option_to_list, option_map, map, if◌then◌else◌}
use Rattle.std.proofs.Common.{refl, sym, ap, subst, ◌∙◌}
use Rattle.sched_model.specs.declared.types.Objective.{Objective}
use Rattle.sched_model.specs.declared.types.Verdict.{Verdict}
use Rattle.sched_model.specs.declared.types.Verdict.TheVariants.{Optimal, Infeasible, Unclosed}
use Rattle.sched_model.specs.Words.{is_empty}
use Rattle.sched_model.specs.Data.{Data}
use Rattle.sched_model.specs.Value.{value_of}
use Rattle.region.specs.Cells.{Region}
use Rattle.kernel.specs.declared.types.Found.{Found}
use Rattle.kernel.specs.Steps.{LogState, open_regions, best_of, best_verdict, closed_verdict, verdict_of}
use Rattle.kernel.specs.Promises.{Ready, IfFound, IsFound}
use Rattle.bound_report.specs.Bound.{reach, reaches, IsBestOf, IsBestIn, IsBound}
use Rattle.bound_report.specs.laws.Best.{best_alone, one_best}

record IsClosed (v : Verdict) (found : Option Found) (rs : List Region) : Type 0 where
  none : rs ≡ []
  is : v ≡ closed_verdict found

by_open : (v : Verdict) (found : Option Found) (rs : List Region) → ((b : Option ℤ) → Unclosed b ≡ v → ⊥) → (if is_empty rs then closed_verdict found else Unclosed (best_of found)) ≡ v → IsClosed v found rs
by_open v found [] closed h = record { none = refl; is = sym h }
by_open v found (r ∷ rs) closed h = absurd (closed (best_of found) h)

-- a value was found only with an objective
has_objective : (m : Data) (o : Option Objective) (f : Found) (v : ℤ) → m.objective ≡ o → IsFound m f → f.value ≡ Some v → (p : Objective) × (m.objective ≡ Some p)
has_objective m None f v is found some = absurd (none_some v (sym some ∙ found.value ∙ ap (option_map (λ p. value_of f.assignment p.expr)) is))
  where
    none_some : (v : ℤ) → Some v ≡ None → ⊥
    none_some v h = cc
has_objective m (Some p) f v is found some = (p, is)

optimal_value : (m : Data) (found : Option Found) (v : ℤ) → Optimal v ≡ closed_verdict found → IfFound m found → (f : Found) × (found ≡ Some f) × (f.value ≡ Some v) × IsFound m f
optimal_value m None v h found = absurd (never v h)
  where
    never : (v : ℤ) → Optimal v ≡ Infeasible → ⊥
    never v h = cc
optimal_value m (Some f) v h found = (f, refl, by_value f.value v h, found)
  where
    by_value : (o : Option ℤ) (v : ℤ) → Optimal v ≡ best_verdict o → o ≡ Some v
    by_value None v h = cc
    by_value (Some w) v h = cc

pub optimal_bound : (m : Data) (s : LogState) (v : ℤ) → Ready m s → verdict_of s ≡ Optimal v → IsBound m s (Some v)
optimal_bound m s v ready h =
    let closed = by_open (Optimal v) s.found (open_regions s) (λ b k. other b v k) h in
    let value = optimal_value m s.found v closed.is ready.loses_nothing.found_is in
    let o = has_objective m m.objective value.0 v refl value.3 value.2 in
    let best : best_of s.found ≡ Some v = ap best_of value.1 ∙ value.2 in
    let all : reaches m o.0 s ≡ v ∷ [] = ap (λ b. option_to_list b ++ map (reach m o.0) (open_regions s)) best ∙ ap (λ rs. v ∷ map (reach m o.0) rs) closed.none in
    (o.0, o.1, subst (λ zs. IsBestOf o.0.sense zs v) (sym all) (best_alone o.0.sense v))
  where
    other : (b : Option ℤ) (v : ℤ) → Unclosed b ≡ Optimal v → ⊥
    other b v h = cc

pub infeasible_bound : (m : Data) (s : LogState) → Ready m s → verdict_of s ≡ Infeasible → IsBound m s None
infeasible_bound m s ready h =
    let closed = by_open Infeasible s.found (open_regions s) other h in
    λ o is. ap (λ b. option_to_list b ++ map (reach m o) (open_regions s)) (nothing s.found closed.is) ∙ ap (map (reach m o)) closed.none
  where
    other : (b : Option ℤ) → Unclosed b ≡ Infeasible → ⊥
    other b h = cc

    by_value : (o : Option ℤ) → Infeasible ≡ best_verdict o → o ≡ None
    by_value None h = cc
    by_value (Some w) h = cc

    nothing : (found : Option Found) → Infeasible ≡ closed_verdict found → best_of found ≡ None
    nothing None h = refl
    nothing (Some f) h = by_value f.value h

-- without an objective there is none
pub plain_bound : (m : Data) (s : LogState) → m.objective ≡ None → IsBound m s None
plain_bound m s none = λ o is. absurd (never o (sym none ∙ is))
  where
    never : (o : Objective) → None ≡ Some o → ⊥
    never o h = cc

-- a state has one bound
pub one_bound : (m : Data) (s : LogState) (b c : Option ℤ) → IsBound m s b → IsBound m s c → b ≡ c
one_bound m s None None h k = refl
one_bound m s None (Some z) h k = one_best k.0.sense (reaches m k.0 s) None (Some z) (h k.0 k.1) k.2
one_bound m s (Some y) None h k = one_best h.0.sense (reaches m h.0 s) (Some y) None h.2 (k h.0 h.1)
one_bound m s (Some y) (Some z) h k = one_best h.0.sense (reaches m h.0 s) (Some y) (Some z) h.2 (subst (λ o. IsBestOf o.sense (reaches m o s) z) (same k.0 h.0 (sym k.1 ∙ h.1)) k.2)
  where
    same : (o p : Objective) → Some o ≡ Some p → o ≡ p
    same o p is = cc

-- the best of the values is the bound
pub bound_is : (m : Data) (s : LogState) (o : Objective) (b : Option ℤ) → m.objective ≡ Some o → IsBestIn o.sense (reaches m o s) b → IsBound m s b
bound_is m s o None is best = λ p has. subst (λ q. reaches m q s ≡ []) (same o p (sym is ∙ has)) best
  where
    same : (o p : Objective) → Some o ≡ Some p → o ≡ p
    same o p is = cc
bound_is m s o (Some z) is best = (o, is, best)
