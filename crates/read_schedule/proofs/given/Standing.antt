-- Which intervals have a slot.
use Rattle.std.proofs.Common.{◌≡◌, ℕ, zero, suc, ◌+◌, ◌<◌, ◌≤◌, ℤ, ◌+ℤ◌, ◌-ℤ◌, ◌≤ℤ◌, Bool, true, false, ◌&&◌, List, [], ◌∷◌, ◌++◌, length, get_or, slice_get, int_le, Some, sym, ap, ◌∙◌, arith}
use Rattle.std.specs.Int.{int_max, int_min}
use Rattle.std.proofs.lemmas.Int.{ints}
use Rattle.std.proofs.lemmas.Bool.{and_parts, and_from}
use Rattle.std.proofs.lemmas.List.{length_push}
use Rattle.sched_model.specs.declared.types.IntervalDef.{IntervalDef}
use Rattle.sched_model.specs.declared.types.Slot.{Slot}
use Rattle.sched_model.specs.declared.types.Slot.TheVariants.{Absent, Present}
use Rattle.sched_model.specs.Bounds.{is_span_of_moments}
use Rattle.sched_model.specs.Words.{is_between, placewise}
use Rattle.sched_model.specs.Domain.{fits_def}
use Rattle.sched_model.specs.Valid.{is_interval_def}
use Rattle.read_schedule.specs.code.Rows.{begins}
use Rattle.read_schedule.specs.code.Reads.{CanStand, EachCanStand, can_reach}
use Rattle.read_schedule.proofs.spelling.Rows.{begins_more, begins_all, item_at}

-- a start and an end, by the numbers of a definition
abbrev some_end : ℤ → ℤ → ℤ → ℤ
some_end slo elo plo = int_max elo (slo +ℤ plo)

abbrev some_start : ℤ → ℤ → ℤ → ℤ → ℤ
some_start slo shi elo plo = int_min shi (some_end slo elo plo -ℤ plo)

start_fits : (slo shi elo plo : ℤ) → is_span_of_moments slo shi ≡ true → is_between slo shi (some_start slo shi elo plo) ≡ true
start_fits slo shi elo plo s = grind (arith, ints)

end_fits : (slo elo ehi plo : ℤ) → is_span_of_moments elo ehi ≡ true → int_le (slo +ℤ plo) ehi ≡ true → is_between elo ehi (some_end slo elo plo) ≡ true
end_fits slo elo ehi plo e r = grind (arith, ints)

size_fits : (slo shi elo plo phi : ℤ) → is_span_of_moments slo shi ≡ true → is_span_of_moments plo phi ≡ true → int_le elo (shi +ℤ phi) ≡ true → is_between plo phi (some_end slo elo plo -ℤ some_start slo shi elo plo) ≡ true
size_fits slo shi elo plo phi s p r =
    let e = some_end slo elo plo in
    and_from (int_le plo (e -ℤ int_min shi (e -ℤ plo))) (int_le (e -ℤ int_min shi (e -ℤ plo)) phi) (long shi e plo) (short shi e plo phi (in_order plo phi p) (early slo shi elo plo phi (in_order slo shi s) (in_order plo phi p) (at_most elo (shi +ℤ phi) r)))
  where
    in_order : (lo hi : ℤ) → is_span_of_moments lo hi ≡ true → lo ≤ℤ hi
    in_order lo hi h = grind (arith, ints)

    at_most : (a b : ℤ) → int_le a b ≡ true → a ≤ℤ b
    at_most a b h = grind (arith, ints)

    early : (slo shi elo plo phi : ℤ) → slo ≤ℤ shi → plo ≤ℤ phi → elo ≤ℤ (shi +ℤ phi) → int_max elo (slo +ℤ plo) ≤ℤ (shi +ℤ phi)
    early slo shi elo plo phi s p r = grind (arith, ints)

    long : (shi e plo : ℤ) → int_le plo (e -ℤ int_min shi (e -ℤ plo)) ≡ true
    long shi e plo = grind (arith, ints)

    short : (shi e plo phi : ℤ) → plo ≤ℤ phi → e ≤ℤ (shi +ℤ phi) → int_le (e -ℤ int_min shi (e -ℤ plo)) phi ≡ true
    short shi e plo phi p r = grind (arith, ints)

no_end : (slo shi elo ehi plo phi s e : ℤ) → (int_le (slo +ℤ plo) ehi && int_le elo (shi +ℤ phi)) ≡ false → is_between slo shi s ≡ true → is_between elo ehi e ≡ true → is_between plo phi (e -ℤ s) ≡ true → ⊥
no_end slo shi elo ehi plo phi s e no_way hs he hp = grind (arith, ints)

pub stands : (d : IntervalDef) (b : Bool) → is_interval_def d ≡ true → d.optional ≡ false → b ≡ can_reach d → CanStand d b
stands d true valid must reach =
    let h3 = and_parts (is_span_of_moments d.start_lo d.start_hi && is_span_of_moments d.end_lo d.end_hi && is_span_of_moments d.size_lo d.size_hi) _ valid in
    let h2 = and_parts (is_span_of_moments d.start_lo d.start_hi && is_span_of_moments d.end_lo d.end_hi) _ h3.0 in
    let h1 = and_parts (is_span_of_moments d.start_lo d.start_hi) (is_span_of_moments d.end_lo d.end_hi) h2.0 in
    let r = and_parts (int_le (d.start_lo +ℤ d.size_lo) d.end_hi) (int_le d.end_lo (d.start_hi +ℤ d.size_hi)) (sym reach) in (
      Present (some_start d.start_lo d.start_hi d.end_lo d.size_lo) (some_end d.start_lo d.end_lo d.size_lo),
      and_from _ _ (and_from _ _ (start_fits d.start_lo d.start_hi d.end_lo d.size_lo h1.0) (end_fits d.start_lo d.end_lo d.end_hi d.size_lo h1.1 r.0)) (size_fits d.start_lo d.start_hi d.end_lo d.size_lo d.size_hi h1.0 h2.1 r.1),
    )
stands d false valid must reach = none
  where
    none : (slot : Slot) → fits_def d slot ≡ true → ⊥
    none Absent fits = cc
    none (Present s e) fits =
        let k2 = and_parts (is_between d.start_lo d.start_hi s && is_between d.end_lo d.end_hi e) _ fits in
        let k1 = and_parts (is_between d.start_lo d.start_hi s) (is_between d.end_lo d.end_hi e) k2.0 in
        no_end d.start_lo d.start_hi d.end_lo d.end_hi d.size_lo d.size_hi s e (sym reach) k1.0 k1.1 k2.1

-- all definitions, one after another

value_at : {X Y : Type 0} (r : X → Y → Bool) (xs : List X) (ys : List Y) (i : ℕ) (x : X) → placewise r xs ys ≡ true → slice_get xs i ≡ Some x → (y : Y) × (r x y ≡ true)
value_at r [] ys i x h at = cc
value_at r (u ∷ xs) [] i x h at = cc
value_at r (u ∷ xs) (y ∷ ys) zero x h at = let same : u ≡ x = cc at in (y, ap (λ w. r w y) (sym same) ∙ (and_parts (r u y) (placewise r xs ys) h).0)
value_at r (u ∷ xs) (y ∷ ys) (suc i) x h at = value_at r xs ys i x (and_parts (r u y) (placewise r xs ys) h).1 at

-- the first n have slots
abbrev pub FirstStand : List IntervalDef → ℕ → Type 0
FirstStand ds n = (slots : List Slot) × (begins fits_def ds slots ≡ true) × (length slots ≡ n)

pub one_stands : (ds : List IntervalDef) (n : ℕ) (d : IntervalDef) → FirstStand ds n → n < length ds → d ≡ get_or ds n d → CanStand d true → FirstStand ds (n + 1)
one_stands ds n d first within item stand =
    let at : slice_get ds (length first.0) ≡ Some d = ap (slice_get ds) first.2 ∙ item_at ds n d within item in
    (first.0 ++ stand.0 ∷ [], begins_more fits_def ds first.0 d stand.0 at first.1 stand.1, length_push first.0 stand.0 ∙ ap (λ i. i + 1) first.2)

pub one_fails : (ds : List IntervalDef) (n : ℕ) (d : IntervalDef) → n < length ds → d ≡ get_or ds n d → CanStand d false → EachCanStand ds false
one_fails ds n d within item none = λ slots all. let there = value_at fits_def ds slots n d all (item_at ds n d within item) in none there.0 there.1

pub all_stand : (ds : List IntervalDef) (n : ℕ) → FirstStand ds n → length ds ≤ n → EachCanStand ds true
all_stand ds n first done = (first.0, begins_all fits_def ds first.0 first.1 (omega (arith, done, first.2)))
