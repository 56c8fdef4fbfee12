-- What the constraints of a calendar mean in a valid model.
use Rattle.std.specs.Prelude.{◌≡◌, ◌↔◌, ℤ, pos, neg_ℤ, ◌-ℤ◌, ◌≤ℤ◌, ℕ, zero, suc, true, ◌&&◌, All, List, [], ◌∷◌, map, slice_index_or, int_le}
use Rattle.std.specs.List.{list_all}
use Rattle.std.proofs.Common.{refl, arith}
use Rattle.std.proofs.lemmas.Int.{ints}
use Rattle.std.proofs.lemmas.Bool.{and_parts, and_from}
use Rattle.sched_base.specs.declared.ids.Itv.{Itv}
use Rattle.sched_model.specs.declared.types.Assignment.{Assignment}
use Rattle.sched_model.specs.declared.types.Constraint.{Constraint}
use Rattle.sched_model.specs.declared.types.IntervalDef.{IntervalDef}
use Rattle.sched_model.specs.declared.types.Slot.{Slot}
use Rattle.sched_model.specs.declared.types.Slot.TheVariants.{Absent, Present}
use Rattle.sched_model.specs.Words.{is_between, placewise}
use Rattle.sched_model.specs.Bounds.{is_moment, is_span_of_moments}
use Rattle.sched_model.specs.Data.{Data, horizon}
use Rattle.sched_model.specs.Domain.{fits_def}
use Rattle.sched_model.specs.Sentences.{Holds, holds}
use Rattle.sched_model.specs.Value.{start_or, end_or}
use Rattle.sched_model.specs.Valid.{IsValid, is_interval_def}
use Rattle.sched_model.specs.laws.Domain.{slots_fit}
use Rattle.calendar.specs.declared.step.Pair.{Pair}
use Rattle.calendar.specs.Steps.{are_steps, closed_of}
use Rattle.calendar.specs.declared.rules.Demand.{Demand}
use Rattle.calendar.specs.declared.rules.Demand.TheVariants.{Start, Extent}
use Rattle.calendar.specs.Rules.{start_rule, extent_rule, RulesSayIt}
use Rattle.calendar.specs.laws.Rules.{starts_exact, extents_exact}

-- where an interval stands, with 0 where it is absent
record Stands (s e : ℤ) : Type 0 where
  start : is_moment s ≡ true
  end : is_moment e ≡ true
  order : s ≤ℤ e

slot_stands : (d : IntervalDef) (s : Slot) → is_interval_def d ≡ true → fits_def d s ≡ true → Stands (start_or (pos 0) s) (end_or (pos 0) s)
slot_stands d Absent valid fits = record { start = refl; end = refl; order = omega (arith, ints) }
slot_stands d (Present s e) valid fits =
    let a = and_parts (is_span_of_moments d.start_lo d.start_hi && is_span_of_moments d.end_lo d.end_hi && is_span_of_moments d.size_lo d.size_hi) _ valid in
    let b = and_parts (is_span_of_moments d.start_lo d.start_hi && is_span_of_moments d.end_lo d.end_hi) (is_span_of_moments d.size_lo d.size_hi) a.0 in
    let c = and_parts (is_span_of_moments d.start_lo d.start_hi) (is_span_of_moments d.end_lo d.end_hi) b.0 in
    let f = and_parts (is_between d.start_lo d.start_hi s && is_between d.end_lo d.end_hi e) (is_between d.size_lo d.size_hi (e -ℤ s)) fits in
    let g = and_parts (is_between d.start_lo d.start_hi s) (is_between d.end_lo d.end_hi e) f.0 in
    record { start = between d.start_lo d.start_hi s c.0 g.0; end = between d.end_lo d.end_hi e c.1 g.1; order = longer d.size_lo d.size_hi s e a.1 f.1 }
  where
    between : (lo hi z : ℤ) → is_span_of_moments lo hi ≡ true → is_between lo hi z ≡ true → is_moment z ≡ true
    between lo hi z h i =
        let a = and_parts (is_moment lo && is_moment hi) (int_le lo hi) h in
        let b = and_parts (is_moment lo) (is_moment hi) a.0 in
        let c = and_parts (int_le lo z) (int_le z hi) i in
        inside z (omega (arith, ints, low lo b.0, le_is lo z c.0)) (omega (arith, ints, high hi b.1, le_is z hi c.1))
      where
        low : (t : ℤ) → is_moment t ≡ true → neg_ℤ horizon ≤ℤ t
        low t h = grind (arith, ints)

        high : (t : ℤ) → is_moment t ≡ true → t ≤ℤ horizon
        high t h = grind (arith, ints)

        le_is : (a b : ℤ) → int_le a b ≡ true → a ≤ℤ b
        le_is a b h = grind (arith, ints)

        inside : (t : ℤ) → neg_ℤ horizon ≤ℤ t → t ≤ℤ horizon → is_moment t ≡ true
        inside t h i = grind (arith, ints)

    longer : (lo hi s e : ℤ) → int_le (pos 0) lo ≡ true → is_between lo hi (e -ℤ s) ≡ true → s ≤ℤ e
    longer lo hi s e h i = grind (arith, ints)

stands_at : (ds : List IntervalDef) (ss : List Slot) → list_all is_interval_def ds ≡ true → placewise fits_def ds ss ≡ true → (n : ℕ) → Stands (start_or (pos 0) (slice_index_or ss n Absent)) (end_or (pos 0) (slice_index_or ss n Absent))
stands_at [] [] valid fits n = record { start = refl; end = refl; order = omega (arith, ints) }
stands_at (d ∷ ds) (s ∷ ss) valid fits zero = slot_stands d s (and_parts (is_interval_def d) (list_all is_interval_def ds) valid).0 (and_parts (fits_def d s) (placewise fits_def ds ss) fits).0
stands_at (d ∷ ds) (s ∷ ss) valid fits (suc n) = stands_at ds ss (and_parts (is_interval_def d) (list_all is_interval_def ds) valid).1 (and_parts (fits_def d s) (placewise fits_def ds ss) fits).1 n
stands_at [] (s ∷ ss) valid fits n = cc
stands_at (d ∷ ds) [] valid fits n = cc

-- each of some constraints, which are expressions, holds as its test says
abbrev Tested : Data → Assignment → Constraint → Type 0
Tested m a c = (Holds m a c) ↔ (holds m a c ≡ true)

all_tested : {X : Type 0} (m : Data) (a : Assignment) (f : X → Constraint) → ((x : X) → Tested m a (f x)) → (xs : List X) → All (Holds m a) (map f xs) ↔ (list_all (holds m a) (map f xs) ≡ true)
all_tested m a f each xs = (there xs, back xs)
  where
    there : (xs : List _) → All (Holds m a) (map f xs) → list_all (holds m a) (map f xs) ≡ true
    there [] h = refl
    there (x ∷ xs) h = and_from (holds m a (f x)) (list_all (holds m a) (map f xs)) ((each x).0 (h zero (f x) (omega arith))) (there xs (λ k d within. h (suc k) d (omega (arith, within))))

    back : (xs : List _) → list_all (holds m a) (map f xs) ≡ true → All (Holds m a) (map f xs)
    back [] h k d within = absurd (omega (arith, within))
    back (x ∷ xs) h zero d within = (each x).1 (and_parts (holds m a (f x)) (list_all (holds m a) (map f xs)) h).0
    back (x ∷ xs) h (suc k) d within = back xs (and_parts (holds m a (f x)) (list_all (holds m a) (map f xs)) h).1 k d (omega (arith, within))

through : {A B C : Type 0} → A ↔ B → B ↔ C → A ↔ C
through f g = (λ a. g.0 (f.0 a), λ c. f.1 (g.1 c))

itself : {A : Type 0} → A ↔ A
itself = (λ a. a, λ a. a)

-- the law: in a valid model the constraints that are made of a calendar say what it says
pub rules_say_it : (m : Data) (demand : Demand) (x : Itv) (ps : List Pair) → IsValid m → are_steps ps ≡ true → RulesSayIt m demand x ps
rules_say_it m Start x ps valid steps a domain =
    let s = stands_at m.intervals a.slots valid.intervals (slots_fit m a domain) x.0 in
    through (all_tested m a (start_rule x) (λ r. itself) (closed_of ps)) (starts_exact m a x ps steps s.start)
rules_say_it m Extent x ps valid steps a domain =
    let s = stands_at m.intervals a.slots valid.intervals (slots_fit m a domain) x.0 in
    through (all_tested m a (extent_rule x) (λ r. itself) (closed_of ps)) (extents_exact m a x ps steps s.start s.end s.order)
