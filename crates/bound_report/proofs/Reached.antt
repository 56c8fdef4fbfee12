-- What is kept while the open regions are gone through.
use Rattle.std.specs.Prelude.{◌≡◌, ℤ, List, [], ◌∷◌, ◌++◌, Option, Some, None, option_map, option_to_list, map}
use Rattle.std.proofs.Common.{sym, ap, subst, ◌∙◌}
use Rattle.sched_model.specs.declared.types.Objective.{Objective}
use Rattle.sched_model.specs.Data.{Data}
use Rattle.region.specs.Cells.{Region}
use Rattle.region.specs.Looks.{Seen}
use Rattle.look_hull.specs.LookHull.{look_hull}
use Rattle.kernel.specs.Steps.{LogState, open_regions, best_of}
use Rattle.kernel.specs.code.Open.{OpenRegions, advanced, in_front, next_of, rest_of}
use Rattle.bound_report.specs.Bound.{better_end, reach, reaches, IsBestIn, IsBound}
use Rattle.bound_report.specs.code.Best.{with_one, best_in}
use Rattle.bound_report.specs.laws.Best.{best_is, one_more}
use Rattle.bound_report.specs.laws.Verdicts.{bound_is}

-- a look at the region in front
pub some_reach : (m : Data) (o : Objective) (regions : OpenRegions) (l : Seen) (z : ℤ) → Some l ≡ in_front regions → z ≡ better_end o.sense (look_hull m l.region o.expr) → Some z ≡ option_map (reach m o) regions.front
some_reach m o regions l z shown is = by_front regions.front shown
  where
    region_of : (s t : Seen) → Some s ≡ Some t → s.region ≡ t.region
    region_of s t same = let is : s ≡ t = cc in ap (λ (x : Seen). x.region) is

    by_front : (front : Option Region) → Some l ≡ option_map (λ r. record { region = r; best = regions.best }) front → Some z ≡ option_map (reach m o) front
    by_front None none = absurd cc
    by_front (Some r) some = ap Some (is ∙ ap (reach m o) (region_of l (record { region = r; best = regions.best }) some))

-- one region more
pub reached_more : (m : Data) (o : Objective) (regions new : OpenRegions) (so_far best : Option ℤ) (z : ℤ) → new ≡ advanced regions → Some z ≡ option_map (reach m o) new.front → best ≡ with_one o.sense so_far z
    → best_in o.sense (option_to_list best ++ map (reach m o) new.behind) ≡ best_in o.sense (option_to_list so_far ++ map (reach m o) regions.behind)
reached_more m o regions new so_far best z next front is =
    ap (λ b. best_in o.sense (option_to_list b ++ map (reach m o) new.behind)) is
    ∙ ap (λ (q : OpenRegions). best_in o.sense (option_to_list (with_one o.sense so_far z) ++ map (reach m o) q.behind)) next
    ∙ by_behind regions.behind (front ∙ ap (λ (q : OpenRegions). option_map (reach m o) q.front) next)
  where
    same : (y : ℤ) → Some z ≡ Some y → z ≡ y
    same y h = cc

    by_behind : (behind : List Region) → Some z ≡ option_map (reach m o) (next_of behind) → best_in o.sense (option_to_list (with_one o.sense so_far z) ++ map (reach m o) (rest_of behind)) ≡ best_in o.sense (option_to_list so_far ++ map (reach m o) behind)
    by_behind [] none = absurd cc
    by_behind (r ∷ rs) some = one_more o.sense so_far z (map (reach m o) rs) ∙ ap (λ y. best_in o.sense (option_to_list so_far ++ y ∷ map (reach m o) rs)) (same (reach m o r) some)

-- after all of them it is the bound
pub best_bounds : (m : Data) (s : LogState) (o : Objective) (best b : Option ℤ) (regions : OpenRegions) → Some o ≡ m.objective → best ≡ best_of s.found → regions ≡ record { front = None; behind = open_regions s; best = best_of s.found }
    → b ≡ best_in o.sense (option_to_list best ++ map (reach m o) regions.behind) → IsBound m s b
best_bounds m s o best b regions has found left is =
    let all : b ≡ best_in o.sense (reaches m o s) =
    is ∙ ap (λ v. best_in o.sense (option_to_list v ++ map (reach m o) regions.behind)) found
    ∙ ap (λ (q : OpenRegions). best_in o.sense (option_to_list (best_of s.found) ++ map (reach m o) q.behind)) left in
    bound_is m s o b (sym has) (subst (IsBestIn o.sense (reaches m o s)) (sym all) (best_is o.sense (reaches m o s)))
