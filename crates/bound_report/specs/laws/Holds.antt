-- No solution is better than the bound, and the bound is what the verdict says where no region is left.
use Rattle.std.specs.Prelude.{◌≡◌, ℕ, zero, suc, ◌<◌, ℤ, ◌≤ℤ◌, true, false, ◌&&◌, List, [], ◌∷◌, ◌++◌, Option, Some, None, option_to_list, option_map, is_some, map, length, slice_index_or, All, Contains, IfSome, int_lt}
use Rattle.std.specs.List.{Any}
use Rattle.std.proofs.Common.{refl, sym, ap, subst, ◌∙◌, arith}
use Rattle.std.proofs.lemmas.Int.{ints}
use Rattle.std.proofs.lemmas.Bool.{true≢false}
use Rattle.std.proofs.lemmas.List.Elements.{All-contains, Contains-append_left, Contains-append_right, Contains-push}
use Rattle.sched_model.specs.declared.types.Assignment.{Assignment}
use Rattle.sched_model.specs.declared.types.Objective.{Objective}
use Rattle.sched_model.specs.declared.types.Sense.{Sense}
use Rattle.sched_model.specs.declared.types.Sense.TheVariants.{Minimize, Maximize}
use Rattle.sched_model.specs.Words.{passes}
use Rattle.sched_model.specs.Data.{Data}
use Rattle.sched_model.specs.Ranges.{Ends}
use Rattle.sched_model.specs.Value.{value_of}
use Rattle.sched_model.specs.Solution.{IsSolution, is_better, beats}
use Rattle.sched_model.specs.laws.Within.{Within}
use Rattle.region.specs.Cells.{Region, Allows}
use Rattle.region.specs.Looks.{IsRegionOf}
use Rattle.look_hull.specs.LookHull.{look_hull}
use Rattle.look_hull.specs.laws.Values.{value_in_look}
use Rattle.kernel.specs.declared.types.Found.{Found}
use Rattle.kernel.specs.Steps.{LogState, open_regions, best_of, is_wanted}
use Rattle.kernel.specs.Promises.{Ready, IfFound, IsFound, HasValue}
use Rattle.bound_report.specs.declared.bounding.Bounded.{Bounded}
use Rattle.bound_report.specs.Bound.{better_end, reach, IsBestOf, IsBound}
use Rattle.bound_report.specs.Bounds.{IsUnbeaten, BoundMeans}

-- what an element of a list gives, another list has
listed_map : {X Y : Type 0} (f : X → Y) (P : X → Type 0) (xs : List X) → Any P xs → (x : X) × P x × Contains xs x
listed_map f P xs h = (h.1, h.4, (h.0, h.2, h.3))

-- what a map makes of an element is an element
map_at : {X Y : Type 0} (f : X → Y) (xs : List X) (x : X) (k : ℕ) → k < length xs → slice_index_or xs k x ≡ x → Contains (map f xs) (f x)
map_at f [] x k within is = absurd (omega (arith, within))
map_at f (y ∷ ys) x zero within is = (zero, omega arith, ap f is)
map_at f (y ∷ ys) x (suc k) within is = let h = map_at f ys x k (omega (arith, within)) is in (suc h.0, omega (arith, h.1), h.2)

-- the better end of a range beats what a value in it beats
end_beats : (s : Sense) (r : Ends) (z b : ℤ) → Within r z → beats s z b ≡ true → beats s (better_end s r) b ≡ true
end_beats Minimize r z b h k = low r.0 z b h.low k
  where
    low : (l z b : ℤ) → l ≤ℤ z → int_lt z b ≡ true → int_lt l b ≡ true
    low l z b h k = grind (arith, ints)
end_beats Maximize r z b h k = high r.1 z b h.high k
  where
    high : (u z b : ℤ) → z ≤ℤ u → int_lt b z ≡ true → int_lt b u ≡ true
    high u z b h k = grind (arith, ints)

-- what beats a value beats one that doesn't beat that
beats_both : (s : Sense) (z v b : ℤ) → beats s z b ≡ true → beats s v b ≡ false → beats s z v ≡ true
beats_both Minimize z v b h k = grind (arith, ints)
beats_both Maximize z v b h k = grind (arith, ints)

-- a value that an open region allows
by_region : (m : Data) (o : Objective) (found : Option Found) (rs : List Region) (b : ℤ) (a : Assignment) → All (IsRegionOf m) rs → IsBestOf o.sense (option_to_list (best_of found) ++ map (reach m o) rs) b → IsSolution m a
    → beats o.sense (value_of a o.expr) b ≡ true → Any (λ r. Allows r a) rs → ⊥
by_region m o found rs b a of is solution better any =
    let one = listed_map (reach m o) (λ r. Allows r a) rs any in
    let r = one.0 in
    let value = value_in_look m r a o.expr (All-contains (IsRegionOf m) rs r of one.2) solution.domain one.1 in
    let among = Contains-append_right (option_to_list (best_of found)) (map (reach m o) rs) (reach m o r) (map_at (reach m o) rs r one.2.0 one.2.1 one.2.2) in
    true≢false (sym (end_beats o.sense (look_hull m r o.expr) (value_of a o.expr) b value better) ∙ All-contains (λ y. beats o.sense y b ≡ false) (option_to_list (best_of found) ++ map (reach m o) rs) (reach m o r) is.best among)

-- what beats the bound beats the best value so far
beats_best : (m : Data) (o : Objective) (v : ℤ) (rest : List ℤ) (b : ℤ) (a : Assignment) → m.objective ≡ Some o → IsBestOf o.sense (v ∷ rest) b → beats o.sense (value_of a o.expr) b ≡ true → is_better m (Some v) a ≡ true
beats_best m o v rest b a is best better =
    ap (passes (λ p. beats p.sense (value_of a p.expr) v)) is ∙ beats_both o.sense (value_of a o.expr) v b better (All-contains (λ y. beats o.sense y b ≡ false) (v ∷ rest) v best.best (Contains-append_left (v ∷ []) rest v (Contains-push [] v)))

wanted : (m : Data) (o : Objective) (found : Option Found) (rest : List ℤ) (b : ℤ) (a : Assignment) → m.objective ≡ Some o → IfFound m found → IsBestOf o.sense (option_to_list (best_of found) ++ rest) b → beats o.sense (value_of a o.expr) b ≡ true
    → is_wanted m found a ≡ true
wanted m o None rest b a is found best better = refl
wanted m o (Some f) rest b a is found best better = by_value f.value (found.value ∙ ap (option_map (λ p. value_of f.assignment p.expr)) is) best
  where
    by_value : (v : Option ℤ) → v ≡ Some (value_of f.assignment o.expr) → IsBestOf o.sense (option_to_list v ++ rest) b → (is_some v && is_better m v a) ≡ true
    by_value None none best = cc
    by_value (Some v) some best = beats_best m o v rest b a is best better

pub bound_holds : (m : Data) (s : LogState) (b : ℤ) (a : Assignment) → Ready m s → IsBound m s (Some b) → IsSolution m a → is_better m (Some b) a ≡ true → ⊥
bound_holds m s b a ready bound solution better =
    let o = bound.0 in
    let is = bound.1 in
    let best = bound.2 in
    let beaten : beats o.sense (value_of a o.expr) b ≡ true = sym (ap (passes (λ p. beats p.sense (value_of a p.expr) b)) is) ∙ better in
    by_region m o s.found (open_regions s) b a ready.regions best solution beaten
    (ready.loses_nothing.covers a solution (wanted m o s.found (map (reach m o) (open_regions s)) b a is ready.loses_nothing.found_is best beaten))

-- So no solution is better than the bound, and one has the best value.

unbeaten : (m : Data) (s : LogState) (b : Option ℤ) → Ready m s → IsBound m s b → IfSome b (IsUnbeaten m)
unbeaten m s None ready bound = tt
unbeaten m s (Some z) ready bound = λ a solution better. bound_holds m s z a ready bound solution better

valued : (m : Data) (f : Found) (v : Option ℤ) → f.value ≡ v → IsFound m f → IfSome v (HasValue m)
valued m f None is found = tt
valued m f (Some v) is found = (f.assignment, found.solution, sym found.value ∙ is)

reached : (m : Data) (found : Option Found) → IfFound m found → IfSome (best_of found) (HasValue m)
reached m None found = tt
reached m (Some f) found = valued m f f.value refl found

pub bound_means : (m : Data) (s : LogState) (b : Bounded) → Ready m s → IsBound m s b.bound → b.best ≡ best_of s.found → BoundMeans m b
bound_means m s b ready bound best = record {
  unbeaten = unbeaten m s b.bound ready bound;
  reached = subst (λ v. IfSome v (HasValue m)) (sym best) (reached m s.found ready.loses_nothing.found_is);
}
