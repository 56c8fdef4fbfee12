-- On a settled region where no witness of this crate refutes, spans, alternatives and synchronizations hold.
use Rattle.std.specs.Prelude.{◌≡◌, ◌⊎◌, ℕ, ◌≤◌, ℤ, pos, ◌≤ℤ◌, Bool, true, false, not, ◌&&◌, ◌||◌, if◌then◌else◌, List, length, map, Some, slice_get, int_le, int_lt}
use Rattle.std.specs.Int.{int_max, int_min}
use Rattle.std.specs.Ordering.{int_eq}
use Rattle.std.specs.List.{list_any, list_all}
use Rattle.std.proofs.Common.{inl, inr, refl, sym, ap, ◌∙◌, arith}
use Rattle.std.proofs.lemmas.Int.{ints}
use Rattle.std.proofs.lemmas.Bool.{true≢false, or_parts}
use Rattle.sched_base.specs.declared.ids.Itv.{Itv}
use Rattle.sched_model.specs.declared.types.Assignment.{Assignment}
use Rattle.sched_model.specs.declared.types.Constraint.{Constraint}
use Rattle.sched_model.specs.declared.types.Constraint.TheVariants as constraint
use Rattle.sched_model.specs.Words.{◌implies◌, is_least, is_greatest, is_empty}
use Rattle.sched_model.specs.Data.{Data}
use Rattle.sched_model.specs.Valid.{IsValid, is_itv, are_parts, are_distinct, is_constraint}
use Rattle.sched_model.specs.Value.{is_present, start_of, end_of, present_of}
use Rattle.sched_model.specs.Hierarchy.{stand_alike, spans, is_alternative, is_synchronized}
use Rattle.sched_model.specs.Sentences.{holds}
use Rattle.sched_model.specs.laws.Listed.{valid_at}
use Rattle.region.specs.declared.types.Presence.{Presence}
use Rattle.region.specs.declared.types.Presence.TheVariants.{Absent, Present, Maybe}
use Rattle.region.specs.Cells.{Region, bounds_of, says_present, says_absent}
use Rattle.region.specs.Looks.{Seen, est_of, lst_of, ect_of, lct_of}
use Rattle.region.specs.laws.Lists.{both_true, true_both}
use Rattle.refute_hier.specs.declared.parts.Role.TheVariants.{IsThere, StartsBefore, EndsAfter, Clashes, MayStart, MayEnd, MayMatch}
use Rattle.refute_hier.specs.declared.witness.HierWitness.{HierWitness}
use Rattle.refute_hier.specs.declared.family.Kind.{Kind}
use Rattle.refute_hier.specs.declared.family.Kind.TheVariants.{Span, Alternative, Synchronize}
use Rattle.refute_hier.specs.Parts.{clash, plays_in, is_there, is_away, some_part, part_count}
use Rattle.refute_hier.specs.Alt.{is_crowded, is_short}
use Rattle.refute_hier.specs.Hier.{refutes}
use Rattle.refute_hier.specs.code.Rows.{as_constraint, is_family, some_case, some_refutes}
use Rattle.region.specs.laws.Found.{never}
use Rattle.refute_hier.specs.laws.Filtered.{any_made, all_made, all_but, kept_pass, kept_some, none_left, kept_count, counted_kept}
use Rattle.refute_hier.specs.laws.Rows.{witness_from}
use Rattle.refute_hier.specs.laws.Families.{witness_refutes}
use Rattle.refute_hier.specs.laws.Parts.{is_one, family_named}
use Rattle.region.specs.laws.Pinned.{IsSettledTo, Pinned, pinned}
use Rattle.sched_model.specs.laws.Words.{if_implied}
use Rattle.base_laws.specs.laws.Items.{all_listed}
use Rattle.base_laws.specs.laws.Truth.{other_fails, not_away}

-- an interval of the model and its parts, in an assignment that a settled region leaves
record AreSettled (m : Data) (r : Region) (a : Assignment) (x : Itv) (bs : List Itv) : Type 0 where
  to : IsSettledTo m r a
  whole : is_itv m x ≡ true
  parts : list_all (is_itv m) bs ≡ true

at : (m : Data) (r : Region) (a : Assignment) (x : Itv) (bs : List Itv) (b : Itv) → AreSettled m r a x bs → is_itv m b ≡ true → Pinned r a b
at m r a x bs b ok is = pinned m r a b ok.to is

-- truth values
false_of : (b : Bool) → not b ≡ true → b ≡ false
false_of true h = never h
false_of false h = refl

true_of : (b : Bool) → not b ≡ false → b ≡ true
true_of true h = refl
true_of false h = absurd (true≢false h)

-- what may be present is
is_here : (r : Region) (a : Assignment) (b : Itv) → Pinned r a b → not (is_away r b) ≡ true → is_present a b ≡ true
is_here r a b pin h = pin.there ∙ not_away (is_away r b) (is_there r b) pin.either h

never_maybe : {P : Type 0} (r : Region) (a : Assignment) (x : Itv) → Pinned r a x → (bounds_of r x).presence ≡ Maybe → P
never_maybe r a x pin e = absurd (true≢false (sym (sym (ap says_absent e) ∙ pin.either ∙ ap (λ p. not (says_present p)) e)))

away : (r : Region) (a : Assignment) (x : Itv) → Pinned r a x → (bounds_of r x).presence ≡ Absent → is_present a x ≡ false
away r a x pin e = pin.there ∙ ap says_present e

there : (r : Region) (a : Assignment) (x : Itv) → Pinned r a x → (bounds_of r x).presence ≡ Present → is_present a x ≡ true
there r a x pin e = pin.there ∙ ap says_present e

-- no part is present
none_present : (m : Data) (r : Region) (a : Assignment) (x : Itv) (bs : List Itv) → AreSettled m r a x bs → some_part r IsThere x bs ≡ false → is_empty (present_of a bs) ≡ true
none_present m r a x bs ok none = none_left (present_of a bs) (kept_pass (λ b. is_itv m b && not (plays_in r IsThere x b)) (λ b. false) (is_present a)
    (λ b is here. let two = both_true (is_itv m b) (not (plays_in r IsThere x b)) is in
    absurd (true≢false (sym here ∙ (at m r a x bs b ok two.0).there ∙ false_of (is_there r b) two.1)))
    bs (all_but (is_itv m) (plays_in r IsThere x) bs ok.parts none))

-- moments
first_before : (e s f t l : ℤ) → s ≡ e → t ≡ f → l ≡ f → int_lt l e ≡ false → int_le s t ≡ true
first_before e s f t l h i j k = grind (arith, ints)

first_same : (e s f t l n : ℤ) → s ≡ e → n ≡ e → t ≡ f → l ≡ f → int_le f n ≡ true → int_lt l e ≡ false → int_eq s t ≡ true
first_same e s f t l n h i j k o p = grind (arith, ints)

last_after : (e s f t l : ℤ) → s ≡ e → t ≡ f → l ≡ f → int_lt e l ≡ false → int_le t s ≡ true
last_after e s f t l h i j k = grind (arith, ints)

last_same : (e s f t l n : ℤ) → s ≡ e → n ≡ e → t ≡ f → l ≡ f → int_le n f ≡ true → int_lt e l ≡ false → int_eq s t ≡ true
last_same e s f t l n h i j k o p = grind (arith, ints)

alike : (e1 l1 e2 l2 f1 m1 f2 m2 s1 s2 t1 t2 : ℤ) → s1 ≡ e1 → l1 ≡ e1 → s2 ≡ e2 → l2 ≡ e2 → t1 ≡ m1 → f1 ≡ m1 → t2 ≡ m2 → f2 ≡ m2
    → (int_lt (int_min l1 l2) (int_max e1 e2) || int_lt (int_min m1 m2) (int_max f1 f2)) ≡ false → (int_eq s2 s1 && int_eq t2 t1) ≡ true
alike e1 l1 e2 l2 f1 m1 f2 m2 s1 s2 t1 t2 a b c d e f g h clash = grind (arith, ints)

-- two that are present and don't clash stand alike
unclashing : (r : Region) (a : Assignment) (x b : Itv) → Pinned r a x → Pinned r a b → is_present a x ≡ true → is_present a b ≡ true → clash (bounds_of r x) (bounds_of r b) ≡ false → stand_alike a b x ≡ true
unclashing r a x b p q there here none =
    alike (est_of r x) (lst_of r x) (est_of r b) (lst_of r b) (ect_of r x) (lct_of r x) (ect_of r b) (lct_of r b) (start_of a x) (start_of a b) (end_of a x) (end_of a b)
    (p.start there) (p.latest there) (q.start here) (q.latest here) (p.end there) (p.earliest there) (q.end here) (q.earliest here) none

-- a span that is present
no_early : (m : Data) (r : Region) (a : Assignment) (x : Itv) (bs : List Itv) (b : Itv) → AreSettled m r a x bs → (is_itv m b && not (plays_in r StartsBefore x b)) ≡ true → is_present a b ≡ true → int_lt (lst_of r b) (est_of r x) ≡ false
no_early m r a x bs b ok is here =
    let two = both_true (is_itv m b) (not (plays_in r StartsBefore x b)) is in
    other_fails (is_there r b) (int_lt (lst_of r b) (est_of r x)) (false_of _ two.1) (sym (at m r a x bs b ok two.0).there ∙ here)

no_late : (m : Data) (r : Region) (a : Assignment) (x : Itv) (bs : List Itv) (b : Itv) → AreSettled m r a x bs → (is_itv m b && not (plays_in r EndsAfter x b)) ≡ true → is_present a b ≡ true → int_lt (lct_of r x) (ect_of r b) ≡ false
no_late m r a x bs b ok is here =
    let two = both_true (is_itv m b) (not (plays_in r EndsAfter x b)) is in
    other_fails (is_there r b) (int_lt (lct_of r x) (ect_of r b)) (false_of _ two.1) (sym (at m r a x bs b ok two.0).there ∙ here)

starts_first : (m : Data) (r : Region) (a : Assignment) (x : Itv) (bs : List Itv) → AreSettled m r a x bs → is_present a x ≡ true → some_part r MayStart x bs ≡ true → some_part r StartsBefore x bs ≡ false → is_least (start_of a x) (map (start_of a) (present_of a bs)) ≡ true
starts_first m r a x bs ok on some none =
    true_both (list_any (int_eq (start_of a x)) (map (start_of a) (present_of a bs))) (list_all (int_le (start_of a x)) (map (start_of a) (present_of a bs)))
    (any_made (int_eq (start_of a x)) (start_of a) (present_of a bs) ∙ kept_some (λ b. is_itv m b && not (plays_in r StartsBefore x b)) (plays_in r MayStart x) (λ b. int_eq (start_of a x) (start_of a b)) (is_present a)
    (λ b is may.
    let q = part b is in
    let two = both_true (not (is_away r b)) (int_le (est_of r b) (lst_of r x)) may in
    let here = is_here r a b q two.0 in
    (here, first_same (est_of r x) (start_of a x) (est_of r b) (start_of a b) (lst_of r b) (lst_of r x) (p.start on) (p.latest on) (q.start here) (q.latest here) two.1 (no_early m r a x bs b ok is here)))
    bs each some)
    (all_made (int_le (start_of a x)) (start_of a) (present_of a bs) ∙ kept_pass (λ b. is_itv m b && not (plays_in r StartsBefore x b)) (λ b. int_le (start_of a x) (start_of a b)) (is_present a)
    (λ b is here. let q = part b is in
    first_before (est_of r x) (start_of a x) (est_of r b) (start_of a b) (lst_of r b) (p.start on) (q.start here) (q.latest here) (no_early m r a x bs b ok is here))
    bs each)
  where
    p : Pinned r a x
    p = at m r a x bs x ok ok.whole

    part : (b : Itv) → (is_itv m b && not (plays_in r StartsBefore x b)) ≡ true → Pinned r a b
    part b is = at m r a x bs b ok (both_true (is_itv m b) (not (plays_in r StartsBefore x b)) is).0

    each : list_all (λ b. is_itv m b && not (plays_in r StartsBefore x b)) bs ≡ true
    each = all_but (is_itv m) (plays_in r StartsBefore x) bs ok.parts none

ends_last : (m : Data) (r : Region) (a : Assignment) (x : Itv) (bs : List Itv) → AreSettled m r a x bs → is_present a x ≡ true → some_part r MayEnd x bs ≡ true → some_part r EndsAfter x bs ≡ false → is_greatest (end_of a x) (map (end_of a) (present_of a bs)) ≡ true
ends_last m r a x bs ok on some none =
    true_both (list_any (int_eq (end_of a x)) (map (end_of a) (present_of a bs))) (list_all (λ y. int_le y (end_of a x)) (map (end_of a) (present_of a bs)))
    (any_made (int_eq (end_of a x)) (end_of a) (present_of a bs) ∙ kept_some (λ b. is_itv m b && not (plays_in r EndsAfter x b)) (plays_in r MayEnd x) (λ b. int_eq (end_of a x) (end_of a b)) (is_present a)
    (λ b is may.
    let q = part b is in
    let two = both_true (not (is_away r b)) (int_le (ect_of r x) (lct_of r b)) may in
    let here = is_here r a b q two.0 in
    (here, last_same (lct_of r x) (end_of a x) (lct_of r b) (end_of a b) (ect_of r b) (ect_of r x) (p.end on) (p.earliest on) (q.end here) (q.earliest here) two.1 (no_late m r a x bs b ok is here)))
    bs each some)
    (all_made (λ y. int_le y (end_of a x)) (end_of a) (present_of a bs) ∙ kept_pass (λ b. is_itv m b && not (plays_in r EndsAfter x b)) (λ b. int_le (end_of a b) (end_of a x)) (is_present a)
    (λ b is here. let q = part b is in
    last_after (lct_of r x) (end_of a x) (lct_of r b) (end_of a b) (ect_of r b) (p.end on) (q.end here) (q.earliest here) (no_late m r a x bs b ok is here))
    bs each)
  where
    p : Pinned r a x
    p = at m r a x bs x ok ok.whole

    part : (b : Itv) → (is_itv m b && not (plays_in r EndsAfter x b)) ≡ true → Pinned r a b
    part b is = at m r a x bs b ok (both_true (is_itv m b) (not (plays_in r EndsAfter x b)) is).0

    each : list_all (λ b. is_itv m b && not (plays_in r EndsAfter x b)) bs ≡ true
    each = all_but (is_itv m) (plays_in r EndsAfter x) bs ok.parts none

span_holds : (m : Data) (r : Region) (a : Assignment) (x : Itv) (bs : List Itv) (p : Presence) → AreSettled m r a x bs → (bounds_of r x).presence ≡ p → some_case Span p r x bs ≡ false → spans a x (present_of a bs) ≡ true
span_holds m r a x bs Absent ok e none =
    ap (λ b. if b then is_least (start_of a x) (map (start_of a) (present_of a bs)) && is_greatest (end_of a x) (map (end_of a) (present_of a bs)) else is_empty (present_of a bs)) (away r a x (at m r a x bs x ok ok.whole) e)
    ∙ none_present m r a x bs ok none
span_holds m r a x bs Maybe ok e none = never_maybe r a x (at m r a x bs x ok ok.whole) e
span_holds m r a x bs Present ok e none =
    let on = there r a x (at m r a x bs x ok ok.whole) e in
    let three = or_parts (not (some_part r MayStart x bs) || not (some_part r MayEnd x bs) || some_part r StartsBefore x bs) (some_part r EndsAfter x bs) none in
    let two = or_parts (not (some_part r MayStart x bs) || not (some_part r MayEnd x bs)) (some_part r StartsBefore x bs) three.0 in
    let one = or_parts (not (some_part r MayStart x bs)) (not (some_part r MayEnd x bs)) two.0 in
    ap (λ b. if b then is_least (start_of a x) (map (start_of a) (present_of a bs)) && is_greatest (end_of a x) (map (end_of a) (present_of a bs)) else is_empty (present_of a bs)) on
    ∙ true_both (is_least (start_of a x) (map (start_of a) (present_of a bs))) (is_greatest (end_of a x) (map (end_of a) (present_of a bs)))
    (starts_first m r a x bs ok on (true_of (some_part r MayStart x bs) one.0) two.1)
    (ends_last m r a x bs ok on (true_of (some_part r MayEnd x bs) one.1) three.1)

-- parts of an interval that is present, where none clashes with it
all_alike : (m : Data) (r : Region) (a : Assignment) (x : Itv) (bs : List Itv) → AreSettled m r a x bs → is_present a x ≡ true → some_part r Clashes x bs ≡ false → list_all (λ b. stand_alike a b x) (present_of a bs) ≡ true
all_alike m r a x bs ok on none = kept_pass (λ b. is_itv m b && not (plays_in r Clashes x b)) (λ b. stand_alike a b x) (is_present a)
    (λ b is here.
    let two = both_true (is_itv m b) (not (plays_in r Clashes x b)) is in
    let q = at m r a x bs b ok two.0 in
    unclashing r a x b (at m r a x bs x ok ok.whole) q on here (other_fails (is_there r b) (clash (bounds_of r x) (bounds_of r b)) (false_of _ two.1) (sym q.there ∙ here)))
    bs (all_but (is_itv m) (plays_in r Clashes x) bs ok.parts none)

-- as many are present as are shown to be
shown_count : (m : Data) (r : Region) (a : Assignment) (x : Itv) (bs : List Itv) → AreSettled m r a x bs → length (present_of a bs) ≡ part_count r IsThere x bs
shown_count m r a x bs ok = kept_count (is_itv m) (plays_in r IsThere x) (is_present a) (λ b is. (at m r a x bs b ok is).there) bs ok.parts

-- and as may match, at least
matched_count : (m : Data) (r : Region) (a : Assignment) (x : Itv) (bs : List Itv) → AreSettled m r a x bs → part_count r MayMatch x bs ≤ length (present_of a bs)
matched_count m r a x bs ok = counted_kept (is_itv m) (plays_in r MayMatch x) (is_present a)
    (λ b is may. is_here r a b (at m r a x bs b ok is) (both_true (not (is_away r b)) (not (clash (bounds_of r x) (bounds_of r b))) may).0) bs ok.parts

exactly : (n : ℤ) (t m p : ℕ) → int_lt n (pos t) ≡ false → int_lt (pos m) n ≡ false → p ≡ t → m ≤ p → int_eq (pos p) n ≡ true
exactly n t m p few many shown less = equal (pos p) n (omega (arith, ints, at_most n (pos t) few, shown)) (omega (arith, ints, at_most (pos m) n many, less))
  where
    at_most : (x y : ℤ) → int_lt x y ≡ false → y ≤ℤ x
    at_most x y h = grind (arith, ints)

    equal : (x y : ℤ) → x ≤ℤ y → y ≤ℤ x → int_eq x y ≡ true
    equal x y h i = grind (arith, ints)

alternative_holds : (m : Data) (r : Region) (a : Assignment) (n : ℤ) (x : Itv) (bs : List Itv) (p : Presence) → AreSettled m r a x bs → (bounds_of r x).presence ≡ p → some_case (Alternative n) p r x bs ≡ false → is_alternative a x n (present_of a bs) ≡ true
alternative_holds m r a n x bs Absent ok e none =
    ap (λ b. if b then int_eq (pos (length (present_of a bs))) n && list_all (λ y. stand_alike a y x) (present_of a bs) else is_empty (present_of a bs)) (away r a x (at m r a x bs x ok ok.whole) e)
    ∙ none_present m r a x bs ok (or_parts (some_part r IsThere x bs) (is_crowded r n x bs) none).0
alternative_holds m r a n x bs Maybe ok e none = never_maybe r a x (at m r a x bs x ok ok.whole) e
alternative_holds m r a n x bs Present ok e none =
    let on = there r a x (at m r a x bs x ok ok.whole) e in
    let two = or_parts (is_crowded r n x bs || is_short r n x bs) (some_part r Clashes x bs) none in
    let one = or_parts (is_crowded r n x bs) (is_short r n x bs) two.0 in
    ap (λ b. if b then int_eq (pos (length (present_of a bs))) n && list_all (λ y. stand_alike a y x) (present_of a bs) else is_empty (present_of a bs)) on
    ∙ true_both (int_eq (pos (length (present_of a bs))) n) (list_all (λ y. stand_alike a y x) (present_of a bs))
    (exactly n (part_count r IsThere x bs) (part_count r MayMatch x bs) (length (present_of a bs)) one.0 one.1 (shown_count m r a x bs ok) (matched_count m r a x bs ok))
    (all_alike m r a x bs ok on two.1)

synchronize_holds : (m : Data) (r : Region) (a : Assignment) (x : Itv) (bs : List Itv) (p : Presence) → AreSettled m r a x bs → (bounds_of r x).presence ≡ p → some_case Synchronize p r x bs ≡ false → is_synchronized a x (present_of a bs) ≡ true
synchronize_holds m r a x bs Absent ok e none = ap (λ b. b implies list_all (λ y. stand_alike a y x) (present_of a bs)) (away r a x (at m r a x bs x ok ok.whole) e)
synchronize_holds m r a x bs Maybe ok e none = never_maybe r a x (at m r a x bs x ok ok.whole) e
synchronize_holds m r a x bs Present ok e none =
    let on = there r a x (at m r a x bs x ok ok.whole) e in
    ap (λ b. b implies list_all (λ y. stand_alike a y x) (present_of a bs)) on ∙ all_alike m r a x bs ok on none

members : (m : Data) (kind : Kind) (x : Itv) (bs : List Itv) → is_constraint m (as_constraint kind x bs) ≡ true → (is_itv m x ≡ true) × (list_all (is_itv m) bs ≡ true)
members m kind x bs h = let two = both_true (is_itv m x) (are_parts m bs) (family_named m kind x bs h) in (two.0, (both_true (list_all (is_itv m) bs) (are_distinct bs) two.1).0)

-- where no row refutes, the constraint holds
rows_hold : (m : Data) (r : Region) (a : Assignment) (kind : Kind) (x : Itv) (bs : List Itv) → AreSettled m r a x bs → some_refutes kind r x bs ≡ false → holds m a (as_constraint kind x bs) ≡ true
rows_hold m r a Span x bs ok none = span_holds m r a x bs (bounds_of r x).presence ok refl none
rows_hold m r a (Alternative n) x bs ok none = alternative_holds m r a n x bs (bounds_of r x).presence ok refl none
rows_hold m r a Synchronize x bs ok none = synchronize_holds m r a x bs (bounds_of r x).presence ok refl none

-- a witness that refutes the look
pub record HasRefuting (m : Data) (l : Seen) : Type 0 where
  pub witness : HierWitness
  pub refutes : refutes m l witness ≡ true

held_or_refuted : (m : Data) (l : Seen) (a : Assignment) (c : ℕ) (kind : Kind) (x : Itv) (bs : List Itv) → IsValid m → IsSettledTo m l.region a → slice_get m.constraints c ≡ Some (as_constraint kind x bs)
    → (holds m a (as_constraint kind x bs) ≡ true) ⊎ HasRefuting m l
held_or_refuted m l a c kind x bs valid to is = by_case (some_refutes kind l.region x bs) refl
  where
    by_case : (b : Bool) → some_refutes kind l.region x bs ≡ b → (holds m a (as_constraint kind x bs) ≡ true) ⊎ HasRefuting m l
    by_case false none =
        let two = members m kind x bs (valid_at m m.constraints c (as_constraint kind x bs) valid refl is) in
        inl (rows_hold m l.region a kind x bs (record { to = to; whole = two.0; parts = two.1 }) none)
    by_case true some =
        let of = is_one m c kind x bs valid is in
        let w = witness_from kind l.region x bs c of.few some in
        inr (record { witness = w.witness; refutes = witness_refutes m l kind x bs c w.witness is w.is })

-- each constraint on an interval and its parts holds, or a witness refutes
pub holds_or_refuted : (m : Data) (l : Seen) (a : Assignment) (c : ℕ) (d : Constraint) → IsValid m → IsSettledTo m l.region a → slice_get m.constraints c ≡ Some d → is_family d ≡ true → (holds m a d ≡ true) ⊎ HasRefuting m l
holds_or_refuted m l a c (constraint.Span x bs) valid to is of = held_or_refuted m l a c Span x bs valid to is
holds_or_refuted m l a c (constraint.Alternative x bs n) valid to is of = held_or_refuted m l a c (Alternative n) x bs valid to is
holds_or_refuted m l a c (constraint.Synchronize x bs) valid to is of = held_or_refuted m l a c Synchronize x bs valid to is
holds_or_refuted m l a c other valid to is of = never of

-- so where no witness refutes it holds
pub unrefuted_holds : (m : Data) (l : Seen) (a : Assignment) (c : ℕ) (d : Constraint) → IsValid m → IsSettledTo m l.region a → ((w : HierWitness) → refutes m l w ≡ false) → slice_get m.constraints c ≡ Some d → is_family d ≡ true → holds m a d ≡ true
unrefuted_holds m l a c d valid to none is of = elim (holds_or_refuted m l a c d valid to is of) [
  | inl here ↦ here
  | inr one ↦ absurd (true≢false (sym one.refutes ∙ none one.witness))
]

-- the same of all constraints: of other kinds this says nothing
abbrev pub keeps_family : Data → Assignment → Constraint → Bool
keeps_family m a d = is_family d implies holds m a d

pub all_unrefuted_hold : (m : Data) (l : Seen) (a : Assignment) → IsValid m → IsSettledTo m l.region a → ((w : HierWitness) → refutes m l w ≡ false) → list_all (keeps_family m a) m.constraints ≡ true
all_unrefuted_hold m l a valid to none = all_listed (keeps_family m a) m.constraints (λ c d is. if_implied (is_family d) (holds m a d) (λ of. unrefuted_holds m l a c d valid to none is of))
