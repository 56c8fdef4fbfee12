-- The segments that settled slots leave are no more than the state constraints.
use Rattle.std.specs.Prelude.{not, nat_eq, if◌then◌else◌}
use Rattle.std.specs.List.{filter_map, filter, cons_option}
use Rattle.std.proofs.Common.{◌≡◌, ℕ, zero, suc, ◌+◌, ◌<◌, ◌≤◌, ℤ, Bool, true, false, List, [], ◌∷◌, length, Option, Some, None, refl, arith}
use Rattle.std.proofs.lemmas.Bool.Decides.{nat_tests}
use Rattle.std.proofs.lemmas.List.Filters.{length-filter_both}
use Rattle.sched_base.specs.declared.ids.Stf.{Stf}
use Rattle.sched_model.specs.declared.types.Slot.{Slot}
use Rattle.sched_model.specs.declared.types.Segment.{Segment}
use Rattle.sched_model.specs.declared.types.Constraint.{Constraint}
use Rattle.sched_model.specs.declared.types.Constraint.TheVariants.{AlwaysEqual, AlwaysNoState}
use Rattle.refute_state.specs.declared.stretch.Stretch.{Stretch}
use Rattle.refute_state.specs.code.Groups.{is_linked, is_first_of, placed, absorbed, others, with_demand, groups_from, groups_of, are_joined, segment_of, extended, runs_from, runs, canonical_of}
use Rattle.refute_state.specs.code.Canonical.{stretch_of}
use Rattle.base_laws.specs.laws.Numbers.{differs}

-- the segments of one state function are no more than its demands
placed_one : (i : Stretch) (js : List Stretch) → length (placed i js) ≡ 1 + length js
placed_one i [] = refl
placed_one i (j ∷ js) = by_case (is_first_of i j) (placed_one i js)
  where
    by_case : (b : Bool) → length (placed i js) ≡ 1 + length js → length (if b then i ∷ j ∷ js else j ∷ placed i js) ≡ 1 + length (j ∷ js)
    by_case true later = omega arith
    by_case false later = omega (arith, later)

kept_few : {X : Type 0} (p : X → Bool) (xs : List X) → length (filter p xs) ≤ length xs
kept_few p xs = omega (arith, length-filter_both p (λ x. not (p x)) (λ x. refl) xs)

groups_few : (gs ds : List Stretch) → length (groups_from gs ds) ≤ length gs + length ds
groups_few gs [] = omega arith
groups_few gs (d ∷ ds) = omega (arith, groups_few (with_demand gs d) ds, placed_one (absorbed d gs) (others d gs), kept_few (λ j. not (is_linked d j)) gs)

runs_few : (gaps : List (ℤ × ℤ)) (now : Segment) (last : Stretch) (js : List Stretch) → length (runs_from gaps now last js) ≤ 1 + length js
runs_few gaps now last [] = omega arith
runs_few gaps now last (j ∷ js) = by_case (are_joined gaps last j) (runs_few gaps (extended now j) j js) (runs_few gaps (segment_of j) j js)
  where
    by_case : (b : Bool) → length (runs_from gaps (extended now j) j js) ≤ 1 + length js → length (runs_from gaps (segment_of j) j js) ≤ 1 + length js
        → length (if b then runs_from gaps (extended now j) j js else now ∷ runs_from gaps (segment_of j) j js) ≤ 1 + length (j ∷ js)
    by_case true joined apart = omega (arith, joined)
    by_case false joined apart = omega (arith, apart)

pub canonical_few : (ds : List Stretch) (gaps : List (ℤ × ℤ)) → length (canonical_of ds gaps) ≤ length ds
canonical_few ds gaps = few (groups_of ds) (omega (arith, groups_few [] ds))
  where
    few : (is : List Stretch) → length is ≤ length ds → length (runs gaps is) ≤ length ds
    few [] h = omega arith
    few (i ∷ is) h = omega (arith, runs_few gaps (segment_of i) i is, h)

-- how many demands the state functions from a number on, so many, have together
abbrev pub demands_from : List Slot → List Constraint → ℕ → ℕ → ℕ
demands_from ss cs a zero = 0
demands_from ss cs a (suc k) = length (filter_map (stretch_of ss (record { 0 = a })) cs) + demands_from ss cs (a + 1) k

-- a constraint is a demand of one state function at most
abbrev IsOf : List Slot → ℕ → Constraint → Type 0
IsOf ss h c = (g : Stf) → (h ≡ g.0 → ⊥) → stretch_of ss g c ≡ None

of_one : (ss : List Slot) (c : Constraint) → (h : ℕ) × IsOf ss h c
of_one ss (AlwaysEqual h x v i j) = (h.0, λ g other. rw (differs h.0 g.0 other) refl)
of_one ss (AlwaysNoState g x) = (0, λ g other. refl)
of_one ss other = (0, λ g other. refl)

one_more : {X : Type 0} (o : Option X) (xs : List X) → length (cons_option o xs) ≤ 1 + length xs
one_more None xs = omega arith
one_more (Some x) xs = omega arith

none_more : {X : Type 0} (o : Option X) (xs : List X) → o ≡ None → length (cons_option o xs) ≡ length xs
none_more None xs h = refl
none_more (Some x) xs h = cc

other_head : (ss : List Slot) (h : ℕ) (c : Constraint) (cs : List Constraint) (a : ℕ) → IsOf ss h c → (h ≡ a → ⊥) → length (filter_map (stretch_of ss (record { 0 = a })) (c ∷ cs)) ≡ length (filter_map (stretch_of ss (record { 0 = a })) cs)
other_head ss h c cs a of other = none_more (stretch_of ss (record { 0 = a }) c) (filter_map (stretch_of ss (record { 0 = a })) cs) (of (record { 0 = a }) other)

past : (ss : List Slot) (h : ℕ) (c : Constraint) (cs : List Constraint) (a k : ℕ) → IsOf ss h c → h < a → demands_from ss (c ∷ cs) a k ≡ demands_from ss cs a k
past ss h c cs a zero of less = refl
past ss h c cs a (suc k) of less = omega (arith, other_head ss h c cs a of (λ same. omega (arith, less, same)), past ss h c cs (a + 1) k of (omega (arith, less)))

with_one : (ss : List Slot) (h : ℕ) (c : Constraint) (cs : List Constraint) (a k : ℕ) → IsOf ss h c → demands_from ss (c ∷ cs) a k ≤ 1 + demands_from ss cs a k
with_one ss h c cs a zero of = omega arith
with_one ss h c cs a (suc k) of = by_case (nat_eq h a) refl (with_one ss h c cs (a + 1) k of)
  where
    same_number : nat_eq h a ≡ true → h ≡ a
    same_number is = grind (arith, nat_tests)

    not_same : nat_eq h a ≡ false → h ≡ a → ⊥
    not_same is same = grind (arith, nat_tests)

    by_case : (b : Bool) → nat_eq h a ≡ b → demands_from ss (c ∷ cs) (a + 1) k ≤ 1 + demands_from ss cs (a + 1) k → demands_from ss (c ∷ cs) a (suc k) ≤ 1 + demands_from ss cs a (suc k)
    by_case true is later = let same = same_number is in
        omega (arith, one_more (stretch_of ss (record { 0 = a }) c) (filter_map (stretch_of ss (record { 0 = a })) cs), past ss h c cs (a + 1) k of (omega (arith, same)))
    by_case false is later = omega (arith, other_head ss h c cs a of (not_same is), later)

none_from : (ss : List Slot) (a k : ℕ) → demands_from ss [] a k ≡ 0
none_from ss a zero = refl
none_from ss a (suc k) = omega (arith, none_from ss (a + 1) k)

pub demands_few : (ss : List Slot) (cs : List Constraint) (a k : ℕ) → demands_from ss cs a k ≤ length cs
demands_few ss [] a k = omega (arith, none_from ss a k)
demands_few ss (c ∷ cs) a k = let one = of_one ss c in omega (arith, with_one ss one.0 c cs a k one.1, demands_few ss cs a k)
