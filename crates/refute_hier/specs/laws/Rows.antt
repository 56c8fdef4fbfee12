-- Some row of a constraint refutes exactly where a witness of the constraint does.
use Rattle.std.specs.Prelude.{◌≡◌, ℕ, suc, ◌<◌, ◌^◌, ℤ, pos, Bool, true, false, not, ◌&&◌, ◌||◌, List, [], ◌∷◌, length, Some, slice_get, nat_eq, nat_lt, int_lt}
use Rattle.std.specs.Ordering.{int_eq}
use Rattle.std.specs.List.{list_any}
use Rattle.std.proofs.Common.{refl, sym, ap, ◌∙◌, arith, inl, inr}
use Rattle.std.proofs.lemmas.Bool.{true≢false, or_left, or_right}
use Rattle.std.proofs.lemmas.Bool.Decides.{nat_tests}
use Rattle.std.proofs.lemmas.Int.{ints}
use Rattle.sched_base.specs.declared.ids.Itv.{Itv}
use Rattle.sched_model.specs.Words.{passes}
use Rattle.sched_model.specs.Data.{Data}
use Rattle.region.specs.declared.types.Presence.{Presence}
use Rattle.region.specs.declared.types.Presence.TheVariants.{Absent, Present, Maybe}
use Rattle.region.specs.Cells.{Region, bounds_of, says_present, says_absent}
use Rattle.region.specs.Looks.{Seen}
use Rattle.region.specs.laws.Lists.{both_true, true_both}
use Rattle.region.specs.laws.OneSequence.{has_cases}
use Rattle.refute_hier.specs.declared.parts.Role.TheVariants.{IsThere, StartsBefore, EndsAfter, Clashes, MayStart, MayEnd}
use Rattle.refute_hier.specs.declared.witness.HierWitness.{HierWitness}
use Rattle.refute_hier.specs.declared.witness.HierWitness.TheVariants as witness
use Rattle.refute_hier.specs.Witness.{is_valid, constraint_of}
use Rattle.refute_hier.specs.Parts.{plays_in, is_there, is_away, at_part, some_part, part_count}
use Rattle.refute_hier.specs.Span.{span_case, span_of}
use Rattle.refute_hier.specs.Alt.{are_two, is_crowded, is_short, alt_case, alt_of}
use Rattle.refute_hier.specs.Sync.{sync_case, sync_of}
use Rattle.refute_hier.specs.SeqRel.{seqrel_of}
use Rattle.refute_hier.specs.Hier.{row_of}
use Rattle.region.specs.laws.Found.{never}
use Rattle.refute_hier.specs.laws.Filtered.{chosen, some_at, two_counted}
use Rattle.refute_hier.specs.declared.family.Kind.{Kind}
use Rattle.refute_hier.specs.declared.family.Kind.TheVariants.{Span, Alternative, Synchronize}
use Rattle.refute_hier.specs.code.Rows.{as_constraint, family_row, some_case, some_refutes, IsWitness}
use Rattle.sched_model.specs.laws.Small.{number_fits}
use Rattle.sched_model.specs.Bounds.{is_number}

-- the row of a witness of the constraint
span_shape : (r : Region) (k i : ℕ) (kind : Kind) (a : Itv) (bs : List Itv) (c : ℕ) → span_of r k i (as_constraint kind a bs) ≡ family_row kind r a bs (witness.Span c k i)
span_shape r k i Span a bs c = refl
span_shape r k i (Alternative n) a bs c = refl
span_shape r k i Synchronize a bs c = refl

alt_shape : (r : Region) (k i j : ℕ) (kind : Kind) (a : Itv) (bs : List Itv) (c : ℕ) → alt_of r k i j (as_constraint kind a bs) ≡ family_row kind r a bs (witness.Alt c k i j)
alt_shape r k i j Span a bs c = refl
alt_shape r k i j (Alternative n) a bs c = refl
alt_shape r k i j Synchronize a bs c = refl

sync_shape : (r : Region) (i : ℕ) (kind : Kind) (a : Itv) (bs : List Itv) (c : ℕ) → sync_of r i (as_constraint kind a bs) ≡ family_row kind r a bs (witness.Sync c i)
sync_shape r i Span a bs c = refl
sync_shape r i (Alternative n) a bs c = refl
sync_shape r i Synchronize a bs c = refl

seqrel_shape : (r : Region) (x : Itv) (kind : Kind) (a : Itv) (bs : List Itv) → seqrel_of r x (as_constraint kind a bs) ≡ false
seqrel_shape r x Span a bs = refl
seqrel_shape r x (Alternative n) a bs = refl
seqrel_shape r x Synchronize a bs = refl

no_relation : (kind : Kind) (r : Region) (a : Itv) (bs : List Itv) (c x : ℕ) → family_row kind r a bs (witness.SeqRel c x) ≡ false
no_relation Span r a bs c x = refl
no_relation (Alternative n) r a bs c x = refl
no_relation Synchronize r a bs c x = refl

pub row_is : (m : Data) (l : Seen) (kind : Kind) (a : Itv) (bs : List Itv) (c : ℕ) (w : HierWitness) → slice_get m.constraints c ≡ Some (as_constraint kind a bs) → constraint_of w ≡ c → row_of m l w ≡ family_row kind l.region a bs w
row_is m l kind a bs c (witness.Span n k i) is names =
    ap (λ d. passes (span_of l.region k i) (slice_get m.constraints d)) names ∙ ap (passes (span_of l.region k i)) is ∙ span_shape l.region k i kind a bs n
row_is m l kind a bs c (witness.Alt n k i j) is names =
    ap (λ d. passes (alt_of l.region k i j) (slice_get m.constraints d)) names ∙ ap (passes (alt_of l.region k i j)) is ∙ alt_shape l.region k i j kind a bs n
row_is m l kind a bs c (witness.Sync n i) is names =
    ap (λ d. passes (sync_of l.region i) (slice_get m.constraints d)) names ∙ ap (passes (sync_of l.region i)) is ∙ sync_shape l.region i kind a bs n
row_is m l kind a bs c (witness.SeqRel n x) is names =
    ap (λ d. passes (seqrel_of l.region (record { 0 = x })) (slice_get m.constraints d)) names ∙ ap (passes (seqrel_of l.region (record { 0 = x }))) is ∙ seqrel_shape l.region (record { 0 = x }) kind a bs
    ∙ sym (no_relation kind l.region a bs n x)

less_of : (i j : ℕ) → nat_lt i j ≡ true → i < j
less_of i j h = grind (arith, nat_tests)

not_there : (r : Region) (a : Itv) (p : Presence) → (bounds_of r a).presence ≡ p → says_present p ≡ false → is_there r a ≡ true → ⊥
not_there r a p e none h = true≢false (sym h ∙ ap says_present e ∙ none)

not_away : (r : Region) (a : Itv) (p : Presence) → (bounds_of r a).presence ≡ p → says_absent p ≡ false → is_away r a ≡ true → ⊥
not_away r a p e none h = true≢false (sym h ∙ ap says_absent e ∙ none)

but_away : (r : Region) (a : Itv) (p : Presence) → (bounds_of r a).presence ≡ p → says_absent p ≡ true → not (is_away r a) ≡ true → ⊥
but_away r a p e one h = true≢false (sym h ∙ ap not (ap says_absent e ∙ one))

-- the rows of a span, one after the other
span_first : (r : Region) (a : Itv) (bs : List Itv) (p : Presence) → (bounds_of r a).presence ≡ p → is_away r a ≡ true → some_part r IsThere a bs ≡ true → some_case Span p r a bs ≡ true
span_first r a bs Absent e away h = h
span_first r a bs Present e away h = absurd (not_away r a Present e refl away)
span_first r a bs Maybe e away h = absurd (not_away r a Maybe e refl away)

span_second : (r : Region) (a : Itv) (bs : List Itv) (p : Presence) → (bounds_of r a).presence ≡ p → is_there r a ≡ true → (not (some_part r MayStart a bs) || not (some_part r MayEnd a bs)) ≡ true → some_case Span p r a bs ≡ true
span_second r a bs Absent e there h = absurd (not_there r a Absent e refl there)
span_second r a bs Present e there h = or_left (not (some_part r MayStart a bs) || not (some_part r MayEnd a bs) || some_part r StartsBefore a bs) (some_part r EndsAfter a bs) (or_left (not (some_part r MayStart a bs) || not (some_part r MayEnd a bs)) (some_part r StartsBefore a bs) h)
span_second r a bs Maybe e there h = absurd (not_there r a Maybe e refl there)

swapped : (b c d e : Bool) → (d || e) ≡ true → (b || c || d || e) ≡ true
swapped true c true e h = refl
swapped true c false true h = refl
swapped true c false false h = cc
swapped false true true e h = refl
swapped false true false true h = refl
swapped false true false false h = cc
swapped false false d e h = h

span_third : (r : Region) (a : Itv) (bs : List Itv) (p : Presence) → (bounds_of r a).presence ≡ p → not (is_away r a) ≡ true → (some_part r StartsBefore a bs || some_part r EndsAfter a bs) ≡ true → some_case Span p r a bs ≡ true
span_third r a bs Absent e here h = absurd (but_away r a Absent e refl here)
span_third r a bs Present e here h = swapped (not (some_part r MayStart a bs)) (not (some_part r MayEnd a bs)) (some_part r StartsBefore a bs) (some_part r EndsAfter a bs) h
span_third r a bs Maybe e here h = h

span_some : (r : Region) (k i : ℕ) (a : Itv) (bs : List Itv) → span_case r k i a bs ≡ true → some_refutes Span r a bs ≡ true
span_some r k i a bs =
    chosen (nat_eq k 1) _ _ first (chosen (nat_eq k 2) _ _ second (chosen (nat_eq k 3) _ _ third (chosen (nat_eq k 4) _ _ fourth (chosen (nat_eq k 5) _ _ fifth never))))
  where
    first : (is_away r a && at_part r IsThere a bs i) ≡ true → some_refutes Span r a bs ≡ true
    first h = let two = both_true (is_away r a) (at_part r IsThere a bs i) h in span_first r a bs (bounds_of r a).presence refl two.0 (some_at (plays_in r IsThere a) bs i two.1)

    second : (nat_eq i 0 && is_there r a && not (some_part r MayStart a bs)) ≡ true → some_refutes Span r a bs ≡ true
    second h =
        let two = both_true (nat_eq i 0 && is_there r a) (not (some_part r MayStart a bs)) h in
        span_second r a bs (bounds_of r a).presence refl (both_true (nat_eq i 0) (is_there r a) two.0).1 (or_left (not (some_part r MayStart a bs)) (not (some_part r MayEnd a bs)) two.1)

    third : (nat_eq i 0 && is_there r a && not (some_part r MayEnd a bs)) ≡ true → some_refutes Span r a bs ≡ true
    third h =
        let two = both_true (nat_eq i 0 && is_there r a) (not (some_part r MayEnd a bs)) h in
        span_second r a bs (bounds_of r a).presence refl (both_true (nat_eq i 0) (is_there r a) two.0).1 (or_right (not (some_part r MayStart a bs)) (not (some_part r MayEnd a bs)) two.1)

    fourth : (not (is_away r a) && at_part r StartsBefore a bs i) ≡ true → some_refutes Span r a bs ≡ true
    fourth h =
        let two = both_true (not (is_away r a)) (at_part r StartsBefore a bs i) h in
        span_third r a bs (bounds_of r a).presence refl two.0 (or_left (some_part r StartsBefore a bs) (some_part r EndsAfter a bs) (some_at (plays_in r StartsBefore a) bs i two.1))

    fifth : (not (is_away r a) && at_part r EndsAfter a bs i) ≡ true → some_refutes Span r a bs ≡ true
    fifth h =
        let two = both_true (not (is_away r a)) (at_part r EndsAfter a bs i) h in
        span_third r a bs (bounds_of r a).presence refl two.0 (or_right (some_part r StartsBefore a bs) (some_part r EndsAfter a bs) (some_at (plays_in r EndsAfter a) bs i two.1))

-- the rows of an alternative
pub more_than_one : (n : ℤ) (k : ℕ) → int_eq n (pos 1) ≡ true → 1 < k → int_lt n (pos k) ≡ true
more_than_one n k h i = grind (arith, ints)

two_are_crowded : (r : Region) (n : ℤ) (a : Itv) (bs : List Itv) (i j : ℕ) → int_eq n (pos 1) ≡ true → are_two r i j a bs ≡ true → is_crowded r n a bs ≡ true
two_are_crowded r n a bs i j single h =
    let two = both_true (nat_lt i j && at_part r IsThere a bs i) (at_part r IsThere a bs j) h in
    let one = both_true (nat_lt i j) (at_part r IsThere a bs i) two.0 in
    more_than_one n (part_count r IsThere a bs) single (two_counted (plays_in r IsThere a) bs i j (less_of i j one.0) one.1 two.1)

alt_first : (r : Region) (n : ℤ) (a : Itv) (bs : List Itv) (p : Presence) → (bounds_of r a).presence ≡ p → is_away r a ≡ true → some_part r IsThere a bs ≡ true → some_case (Alternative n) p r a bs ≡ true
alt_first r n a bs Absent e away h = or_left (some_part r IsThere a bs) (is_crowded r n a bs) h
alt_first r n a bs Present e away h = absurd (not_away r a Present e refl away)
alt_first r n a bs Maybe e away h = absurd (not_away r a Maybe e refl away)

alt_crowded : (r : Region) (n : ℤ) (a : Itv) (bs : List Itv) (p : Presence) → is_crowded r n a bs ≡ true → some_case (Alternative n) p r a bs ≡ true
alt_crowded r n a bs Absent many = or_right (some_part r IsThere a bs) (is_crowded r n a bs) many
alt_crowded r n a bs Present many = or_left (is_crowded r n a bs || is_short r n a bs) (some_part r Clashes a bs) (or_left (is_crowded r n a bs) (is_short r n a bs) many)
alt_crowded r n a bs Maybe many = or_left (is_crowded r n a bs) (some_part r Clashes a bs) many

alt_third : (r : Region) (n : ℤ) (a : Itv) (bs : List Itv) (p : Presence) → (bounds_of r a).presence ≡ p → is_there r a ≡ true → is_short r n a bs ≡ true → some_case (Alternative n) p r a bs ≡ true
alt_third r n a bs Absent e there h = absurd (not_there r a Absent e refl there)
alt_third r n a bs Present e there h = or_left (is_crowded r n a bs || is_short r n a bs) (some_part r Clashes a bs) (or_right (is_crowded r n a bs) (is_short r n a bs) h)
alt_third r n a bs Maybe e there h = absurd (not_there r a Maybe e refl there)

alt_fourth : (r : Region) (n : ℤ) (a : Itv) (bs : List Itv) (p : Presence) → (bounds_of r a).presence ≡ p → not (is_away r a) ≡ true → some_part r Clashes a bs ≡ true → some_case (Alternative n) p r a bs ≡ true
alt_fourth r n a bs Absent e here h = absurd (but_away r a Absent e refl here)
alt_fourth r n a bs Present e here h = or_right (is_crowded r n a bs || is_short r n a bs) (some_part r Clashes a bs) h
alt_fourth r n a bs Maybe e here h = or_right (is_crowded r n a bs) (some_part r Clashes a bs) h

alt_some : (r : Region) (k i j : ℕ) (n : ℤ) (a : Itv) (bs : List Itv) → alt_case r k i j n a bs ≡ true → some_refutes (Alternative n) r a bs ≡ true
alt_some r k i j n a bs = chosen (nat_eq k 1) _ _ first (chosen (nat_eq k 2) _ _ second (chosen (nat_eq k 3) _ _ third (chosen (nat_eq k 4) _ _ fourth (chosen (nat_eq k 5) _ _ fifth never))))
  where
    first : (nat_eq j 0 && is_away r a && at_part r IsThere a bs i) ≡ true → some_refutes (Alternative n) r a bs ≡ true
    first h =
        let two = both_true (nat_eq j 0 && is_away r a) (at_part r IsThere a bs i) h in
        alt_first r n a bs (bounds_of r a).presence refl (both_true (nat_eq j 0) (is_away r a) two.0).1 (some_at (plays_in r IsThere a) bs i two.1)

    second : (int_eq n (pos 1) && are_two r i j a bs) ≡ true → some_refutes (Alternative n) r a bs ≡ true
    second h = let two = both_true (int_eq n (pos 1)) (are_two r i j a bs) h in alt_crowded r n a bs (bounds_of r a).presence (two_are_crowded r n a bs i j two.0 two.1)

    third : (nat_eq i 0 && nat_eq j 0 && is_there r a && is_short r n a bs) ≡ true → some_refutes (Alternative n) r a bs ≡ true
    third h =
        let two = both_true (nat_eq i 0 && nat_eq j 0 && is_there r a) (is_short r n a bs) h in
        alt_third r n a bs (bounds_of r a).presence refl (both_true (nat_eq i 0 && nat_eq j 0) (is_there r a) two.0).1 two.1

    fourth : (nat_eq j 0 && not (is_away r a) && at_part r Clashes a bs i) ≡ true → some_refutes (Alternative n) r a bs ≡ true
    fourth h =
        let two = both_true (nat_eq j 0 && not (is_away r a)) (at_part r Clashes a bs i) h in
        alt_fourth r n a bs (bounds_of r a).presence refl (both_true (nat_eq j 0) (not (is_away r a)) two.0).1 (some_at (plays_in r Clashes a) bs i two.1)

    fifth : (nat_eq i 0 && nat_eq j 0 && is_crowded r n a bs) ≡ true → some_refutes (Alternative n) r a bs ≡ true
    fifth h = alt_crowded r n a bs (bounds_of r a).presence (both_true (nat_eq i 0 && nat_eq j 0) (is_crowded r n a bs) h).1

sync_first : (r : Region) (a : Itv) (bs : List Itv) (p : Presence) → (bounds_of r a).presence ≡ p → is_there r a ≡ true → some_part r Clashes a bs ≡ true → some_case Synchronize p r a bs ≡ true
sync_first r a bs Absent e there h = absurd (not_there r a Absent e refl there)
sync_first r a bs Present e there h = h
sync_first r a bs Maybe e there h = absurd (not_there r a Maybe e refl there)

sync_some : (r : Region) (i : ℕ) (a : Itv) (bs : List Itv) → sync_case r i a bs ≡ true → some_refutes Synchronize r a bs ≡ true
sync_some r i a bs h = let two = both_true (is_there r a) (at_part r Clashes a bs i) h in sync_first r a bs (bounds_of r a).presence refl two.0 (some_at (plays_in r Clashes a) bs i two.1)

-- a witness of the constraint that refutes makes some row refute
pub some_if_row : (kind : Kind) (r : Region) (a : Itv) (bs : List Itv) (w : HierWitness) → family_row kind r a bs w ≡ true → some_refutes kind r a bs ≡ true
some_if_row Span r a bs (witness.Span c k i) h = span_some r k i a bs h
some_if_row Span r a bs (witness.Alt c k i j) h = never h
some_if_row Span r a bs (witness.Sync c i) h = never h
some_if_row Span r a bs (witness.SeqRel c x) h = never h
some_if_row (Alternative n) r a bs (witness.Span c k i) h = never h
some_if_row (Alternative n) r a bs (witness.Alt c k i j) h = alt_some r k i j n a bs h
some_if_row (Alternative n) r a bs (witness.Sync c i) h = never h
some_if_row (Alternative n) r a bs (witness.SeqRel c x) h = never h
some_if_row Synchronize r a bs (witness.Span c k i) h = never h
some_if_row Synchronize r a bs (witness.Alt c k i j) h = never h
some_if_row Synchronize r a bs (witness.Sync c i) h = sync_some r i a bs h
some_if_row Synchronize r a bs (witness.SeqRel c x) h = never h

-- and where some part is something, one at a place is
pub record Place {X : Type 0} (test : X → Bool) (xs : List X) : Type 0 where
  pub at : ℕ
  pub within : at < length xs
  pub passes : passes test (slice_get xs at) ≡ true

next_place : {X : Type 0} (test : X → Bool) (x : X) (xs : List X) → Place test xs → Place test (x ∷ xs)
next_place test x xs p = record { at = suc p.at; within = (let within = p.within in omega (arith, within)); passes = p.passes }

place_of_some : {X : Type 0} (test : X → Bool) (xs : List X) → list_any test xs ≡ true → Place test xs
place_of_some test [] h = never h
place_of_some test (x ∷ xs) h = elim (has_cases (test x) (list_any test xs) h) [
  | inl here ↦ record { at = 0; within = omega arith; passes = here }
  | inr later ↦ next_place test x xs (place_of_some test xs later)
]

place_fits : (n k : ℕ) → n < k → k < 2 ^ 32 → is_number n ≡ true
place_fits n k h few = grind (arith, nat_tests)

valid_span : (c k i : ℕ) → is_number c ≡ true → is_number k ≡ true → is_number i ≡ true → is_valid (witness.Span c k i) ≡ true
valid_span c k i h one two = true_both (is_number c && is_number k) (is_number i) (true_both (is_number c) (is_number k) h one) two

valid_alt : (c k i j : ℕ) → is_number c ≡ true → is_number k ≡ true → is_number i ≡ true → is_number j ≡ true → is_valid (witness.Alt c k i j) ≡ true
valid_alt c k i j h one two three = true_both (is_number c && is_number k && is_number i) (is_number j) (valid_span c k i h one two) three

-- a constraint and its parts can be numbered
pub record AreNumbered (bs : List Itv) (c : ℕ) : Type 0 where
  pub constraint : c < 2 ^ 32
  pub parts : length bs < 2 ^ 32

pub record HasWitness (kind : Kind) (r : Region) (a : Itv) (bs : List Itv) (c : ℕ) : Type 0 where
  pub witness : HierWitness
  pub is : IsWitness kind r a bs c witness

number : (bs : List Itv) (c : ℕ) → AreNumbered bs c → is_number c ≡ true
number bs c few = number_fits c few.constraint

here : (r : Region) (a : Itv) (p : Presence) → (bounds_of r a).presence ≡ p → says_absent p ≡ false → not (is_away r a) ≡ true
here r a p e none = ap not (ap says_absent e ∙ none)

span_outside : (r : Region) (a : Itv) (bs : List Itv) (c : ℕ) → AreNumbered bs c → not (is_away r a) ≡ true → (some_part r StartsBefore a bs || some_part r EndsAfter a bs) ≡ true → HasWitness Span r a bs c
span_outside r a bs c few on h = elim (has_cases (some_part r StartsBefore a bs) (some_part r EndsAfter a bs) h) [
  | inl early ↦ (let p = place_of_some (plays_in r StartsBefore a) bs early in
      record { witness = witness.Span c 4 p.at; is = record { constraint = refl; valid = valid_span c 4 p.at (number bs c few) refl (place_fits p.at (length bs) p.within few.parts); row = true_both (not (is_away r a)) (at_part r StartsBefore a bs p.at) on p.passes } })
  | inr late ↦ (let p = place_of_some (plays_in r EndsAfter a) bs late in
      record { witness = witness.Span c 5 p.at; is = record { constraint = refl; valid = valid_span c 5 p.at (number bs c few) refl (place_fits p.at (length bs) p.within few.parts); row = true_both (not (is_away r a)) (at_part r EndsAfter a bs p.at) on p.passes } })
]

fixed_span : (r : Region) (a : Itv) (bs : List Itv) (c k : ℕ) → AreNumbered bs c → is_number k ≡ true → span_case r k 0 a bs ≡ true → HasWitness Span r a bs c
fixed_span r a bs c k few small h = record { witness = witness.Span c k 0; is = record { constraint = refl; valid = valid_span c k 0 (number bs c few) small refl; row = h } }

span_inside : (r : Region) (a : Itv) (bs : List Itv) (c : ℕ) → AreNumbered bs c → is_there r a ≡ true → (not (some_part r MayStart a bs) || not (some_part r MayEnd a bs)) ≡ true → HasWitness Span r a bs c
span_inside r a bs c few there h = elim (has_cases (not (some_part r MayStart a bs)) (not (some_part r MayEnd a bs)) h) [
  | inl none ↦ fixed_span r a bs c 2 few refl (true_both (is_there r a) (not (some_part r MayStart a bs)) there none)
  | inr none ↦ fixed_span r a bs c 3 few refl (true_both (is_there r a) (not (some_part r MayEnd a bs)) there none)
]

regrouped : (b c d e : Bool) → (b || c || d || e) ≡ true → ((b || c) || (d || e)) ≡ true
regrouped true true d e h = refl
regrouped true false d e h = refl
regrouped false true d e h = refl
regrouped false false d e h = h

span_witness : (r : Region) (a : Itv) (bs : List Itv) (c : ℕ) (p : Presence) → (bounds_of r a).presence ≡ p → AreNumbered bs c → some_case Span p r a bs ≡ true → HasWitness Span r a bs c
span_witness r a bs c Absent e few h =
    let p = place_of_some (plays_in r IsThere a) bs h in
    record { witness = witness.Span c 1 p.at; is = record { constraint = refl; valid = valid_span c 1 p.at (number bs c few) refl (place_fits p.at (length bs) p.within few.parts); row = true_both (is_away r a) (at_part r IsThere a bs p.at) (ap says_absent e) p.passes } }
span_witness r a bs c Maybe e few h = span_outside r a bs c few (here r a Maybe e refl) h
span_witness r a bs c Present e few h =
    elim (has_cases (not (some_part r MayStart a bs) || not (some_part r MayEnd a bs)) (some_part r StartsBefore a bs || some_part r EndsAfter a bs)
    (regrouped (not (some_part r MayStart a bs)) (not (some_part r MayEnd a bs)) (some_part r StartsBefore a bs) (some_part r EndsAfter a bs) h)) [
      | inl inside ↦ span_inside r a bs c few (ap says_present e) inside
      | inr outside ↦ span_outside r a bs c few (here r a Present e refl) outside
    ]

-- where more are present than the count
alt_crowd : (r : Region) (n : ℤ) (a : Itv) (bs : List Itv) (c : ℕ) → AreNumbered bs c → is_crowded r n a bs ≡ true → HasWitness (Alternative n) r a bs c
alt_crowd r n a bs c few h = record { witness = witness.Alt c 5 0 0; is = record { constraint = refl; valid = valid_alt c 5 0 0 (number bs c few) refl refl refl; row = h } }

alt_clash : (r : Region) (n : ℤ) (a : Itv) (bs : List Itv) (c : ℕ) → AreNumbered bs c → not (is_away r a) ≡ true → some_part r Clashes a bs ≡ true → HasWitness (Alternative n) r a bs c
alt_clash r n a bs c few on h =
    let p = place_of_some (plays_in r Clashes a) bs h in
    record { witness = witness.Alt c 4 p.at 0; is = record { constraint = refl; valid = valid_alt c 4 p.at 0 (number bs c few) refl (place_fits p.at (length bs) p.within few.parts) refl; row = true_both (not (is_away r a)) (at_part r Clashes a bs p.at) on p.passes } }

alt_witness : (r : Region) (n : ℤ) (a : Itv) (bs : List Itv) (c : ℕ) (p : Presence) → (bounds_of r a).presence ≡ p → AreNumbered bs c → some_case (Alternative n) p r a bs ≡ true → HasWitness (Alternative n) r a bs c
alt_witness r n a bs c Absent e few h = elim (has_cases (some_part r IsThere a bs) (is_crowded r n a bs) h) [
  | inl one ↦ (let p = place_of_some (plays_in r IsThere a) bs one in
      record { witness = witness.Alt c 1 p.at 0; is = record { constraint = refl; valid = valid_alt c 1 p.at 0 (number bs c few) refl (place_fits p.at (length bs) p.within few.parts) refl; row = true_both (is_away r a) (at_part r IsThere a bs p.at) (ap says_absent e) p.passes } })
  | inr many ↦ alt_crowd r n a bs c few many
]
alt_witness r n a bs c Maybe e few h = elim (has_cases (is_crowded r n a bs) (some_part r Clashes a bs) h) [
  | inl many ↦ alt_crowd r n a bs c few many
  | inr one ↦ alt_clash r n a bs c few (here r a Maybe e refl) one
]
alt_witness r n a bs c Present e few h = elim (has_cases (is_crowded r n a bs || is_short r n a bs) (some_part r Clashes a bs) h) [
  | inl more ↦ elim (has_cases (is_crowded r n a bs) (is_short r n a bs) more) [
    | inl many ↦ alt_crowd r n a bs c few many
    | inr none ↦ record { witness = witness.Alt c 3 0 0; is = record { constraint = refl; valid = valid_alt c 3 0 0 (number bs c few) refl refl refl; row = true_both (is_there r a) (is_short r n a bs) (ap says_present e) none } }
  ]
  | inr one ↦ alt_clash r n a bs c few (here r a Present e refl) one
]

sync_witness : (r : Region) (a : Itv) (bs : List Itv) (c : ℕ) (p : Presence) → (bounds_of r a).presence ≡ p → AreNumbered bs c → some_case Synchronize p r a bs ≡ true → HasWitness Synchronize r a bs c
sync_witness r a bs c Absent e few h = never h
sync_witness r a bs c Maybe e few h = never h
sync_witness r a bs c Present e few h =
    let p = place_of_some (plays_in r Clashes a) bs h in
    record { witness = witness.Sync c p.at; is = record { constraint = refl; valid = true_both (is_number c) (is_number p.at) (number bs c few) (place_fits p.at (length bs) p.within few.parts); row = true_both (is_there r a) (at_part r Clashes a bs p.at) (ap says_present e) p.passes } }

-- where some row refutes, a witness of the constraint does
pub witness_from : (kind : Kind) (r : Region) (a : Itv) (bs : List Itv) (c : ℕ) → AreNumbered bs c → some_refutes kind r a bs ≡ true → HasWitness kind r a bs c
witness_from Span r a bs c few h = span_witness r a bs c (bounds_of r a).presence refl few h
witness_from (Alternative n) r a bs c few h = alt_witness r n a bs c (bounds_of r a).presence refl few h
witness_from Synchronize r a bs c few h = sync_witness r a bs c (bounds_of r a).presence refl few h
