-- The best of values that are looked at one after another is the best of them all, and there is only one.
use Rattle.std.specs.Prelude.{◌≡◌, ℤ, ◌≤ℤ◌, ◌⊎◌, false, List, [], ◌∷◌, ◌++◌, Option, Some, None, option_to_list, fold, All, Contains}
use Rattle.std.specs.Int.{int_max, int_min}
use Rattle.std.proofs.Common.{refl, sym, subst, ap, inl, inr, arith}
use Rattle.std.proofs.lemmas.Int.{ints, fold-int_min_reached, fold-int_min_bounds, fold-int_max_reached, fold-int_max_bounds}
use Rattle.std.proofs.lemmas.List.Elements.{All-nil, All-cons, All-contains, Contains-append_right, Contains-push}
use Rattle.sched_model.specs.declared.types.Sense.{Sense}
use Rattle.sched_model.specs.declared.types.Sense.TheVariants.{Minimize, Maximize}
use Rattle.sched_model.specs.Solution.{beats}
use Rattle.bound_report.specs.Bound.{IsBestOf, IsBestIn}
use Rattle.bound_report.specs.code.Best.{with_one, best_in}

-- no value beats itself
pub not_itself : (s : Sense) (z : ℤ) → beats s z z ≡ false
not_itself Minimize z = grind (arith, ints)
not_itself Maximize z = grind (arith, ints)

-- of one value it is the best
pub best_alone : (s : Sense) (v : ℤ) → IsBestOf s (v ∷ []) v
best_alone s v = record { one = Contains-push [] v; best = All-cons (λ y. beats s y v ≡ false) v [] (not_itself s v) (All-nil (λ y. beats s y v ≡ false)) }

one_of : (z : ℤ) (zs : List ℤ) (b : ℤ) → (b ≡ z) ⊎ Contains zs b → Contains (z ∷ zs) b
one_of z zs b (inl is) = subst (Contains (z ∷ zs)) (sym is) (0, omega arith, refl)
one_of z zs b (inr has) = Contains-append_right (z ∷ []) zs b has

under : (b y : ℤ) → b ≤ℤ y → beats Minimize y b ≡ false
under b y h = grind (arith, ints)

over : (b y : ℤ) → y ≤ℤ b → beats Maximize y b ≡ false
over b y h = grind (arith, ints)

each : (P Q : ℤ → Type 0) (zs : List ℤ) → ((y : ℤ) → P y → Q y) → All P zs → All Q zs
each P Q zs f h = λ n y within. f _ (h n y within)

pub best_is : (s : Sense) (zs : List ℤ) → IsBestIn s zs (best_in s zs)
best_is s [] = refl
best_is Minimize (z ∷ zs) =
    let bounds = fold-int_min_bounds z zs (fold int_min z zs) refl in
    record {
      one = one_of z zs (fold int_min z zs) (fold-int_min_reached z zs (fold int_min z zs) refl);
      best = All-cons (λ y. beats Minimize y (fold int_min z zs) ≡ false) z zs (under (fold int_min z zs) z bounds.0) (each _ _ zs (under (fold int_min z zs)) bounds.1);
    }
best_is Maximize (z ∷ zs) =
    let bounds = fold-int_max_bounds z zs (fold int_max z zs) refl in
    record {
      one = one_of z zs (fold int_max z zs) (fold-int_max_reached z zs (fold int_max z zs) refl);
      best = All-cons (λ y. beats Maximize y (fold int_max z zs) ≡ false) z zs (over (fold int_max z zs) z bounds.0) (each _ _ zs (over (fold int_max z zs)) bounds.1);
    }

-- one value more
pub one_more : (s : Sense) (best : Option ℤ) (z : ℤ) (zs : List ℤ) → best_in s (option_to_list (with_one s best z) ++ zs) ≡ best_in s (option_to_list best ++ z ∷ zs)
one_more s None z zs = refl
one_more Minimize (Some y) z zs = refl
one_more Maximize (Some y) z zs = refl

-- there is one best value
neither : (s : Sense) (y z : ℤ) → beats s y z ≡ false → beats s z y ≡ false → y ≡ z
neither Minimize y z h k = grind (arith, ints)
neither Maximize y z h k = grind (arith, ints)

none_in : (z : ℤ) → Contains [] z → ⊥
none_in z h = omega (arith, h.1)

pub one_best : (s : Sense) (zs : List ℤ) (b c : Option ℤ) → IsBestIn s zs b → IsBestIn s zs c → b ≡ c
one_best s zs None None h k = refl
one_best s zs None (Some z) h k = absurd (none_in z (subst (λ xs. Contains xs z) h k.one))
one_best s zs (Some y) None h k = absurd (none_in y (subst (λ xs. Contains xs y) k h.one))
one_best s zs (Some y) (Some z) h k = ap Some (neither s y z (All-contains (λ x. beats s x z ≡ false) zs y k.best h.one) (All-contains (λ x. beats s x y ≡ false) zs z h.best k.one))
