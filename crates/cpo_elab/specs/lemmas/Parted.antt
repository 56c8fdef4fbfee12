-- Once a list is parted, the item at the new place is the one that stood at the old, and each item passes what it passed.
use Rattle.std.proofs.Common.{◌≡◌, ℕ, zero, suc, ◌+◌, Bool, true, false, not, cond, List, [], ◌∷◌, take, slice_get, Option, Some, None, refl, sym, ap, ◌∙◌}
use Rattle.std.specs.List.{filter, count_by, list_all}
use Rattle.std.proofs.lemmas.List.Sums.{length-filter}
use Rattle.base_laws.specs.laws.Items.{all_append}
use Rattle.base_laws.specs.laws.Kept.{filter_yes, filter_no, count_yes, count_no, all_filter}
use Rattle.base_laws.specs.laws.Places.{at_left, at_right}
use Rattle.sched_model.specs.Words.{passes, passes_if_any}
use Rattle.cpo_elab.specs.NamedFirst.{parted, new_place}

kept_more : {X : Type 0} (p : X → Bool) (x : X) (xs : List X) (i : ℕ) (b : Bool) → p x ≡ b → slice_get (filter p xs) (count_by p (take i xs)) ≡ slice_get xs i
    → slice_get (filter p (x ∷ xs)) (count_by p (x ∷ take i xs)) ≡ slice_get xs i
kept_more p x xs i true holds rest = ap (λ ys. slice_get ys (count_by p (x ∷ take i xs))) (filter_yes p x xs holds) ∙ ap (slice_get (x ∷ filter p xs)) (count_yes p x (take i xs) holds) ∙ rest
kept_more p x xs i false fails rest = ap (λ ys. slice_get ys (count_by p (x ∷ take i xs))) (filter_no p x xs fails) ∙ ap (slice_get (filter p xs)) (count_no p x (take i xs) fails) ∙ rest

-- the item at a place, among those of its kind; past the end there is none
pub at_kept : {X : Type 0} (p : X → Bool) (xs : List X) (i : ℕ) → passes_if_any p (slice_get xs i) ≡ true → slice_get (filter p xs) (count_by p (take i xs)) ≡ slice_get xs i
at_kept p [] i h = refl
at_kept p (x ∷ xs) zero h = ap (λ ys. slice_get ys 0) (filter_yes p x xs h)
at_kept p (x ∷ xs) (suc i) h = kept_more p x xs i (p x) refl (at_kept p xs i h)

-- the new place of an item that passes
pub place_yes : {X : Type 0} (first : X → Bool) (xs : List X) (i : ℕ) → passes first (slice_get xs i) ≡ true → new_place first xs i ≡ count_by first (take i xs)
place_yes first xs i holds = ap (λ b. cond b (count_by first (take i xs)) (count_by first xs + count_by (λ x. not (first x)) (take i xs))) holds

-- the new place of an item that fails
pub place_no : {X : Type 0} (first : X → Bool) (xs : List X) (i : ℕ) → passes first (slice_get xs i) ≡ false → new_place first xs i ≡ count_by first xs + count_by (λ x. not (first x)) (take i xs)
place_no first xs i fails = ap (λ b. cond b (count_by first (take i xs)) (count_by first xs + count_by (λ x. not (first x)) (take i xs))) fails

at_front : {X : Type 0} (first : X → Bool) (xs : List X) (i : ℕ) (x : X) → slice_get xs i ≡ Some x → first x ≡ true → slice_get (parted first xs) (new_place first xs i) ≡ slice_get xs i
at_front first xs i x is holds =
    ap (slice_get (parted first xs)) (place_yes first xs i (ap (passes first) is ∙ holds))
    ∙ at_left (filter first xs) _ _ x (at_kept first xs i (ap (passes_if_any first) is ∙ holds) ∙ is)
    ∙ sym is

at_back : {X : Type 0} (first : X → Bool) (xs : List X) (i : ℕ) → passes first (slice_get xs i) ≡ false → passes_if_any (λ x. not (first x)) (slice_get xs i) ≡ true → slice_get (parted first xs) (new_place first xs i) ≡ slice_get xs i
at_back first xs i fails other =
    ap (slice_get (parted first xs)) (place_no first xs i fails ∙ ap (λ n. n + count_by (λ x. not (first x)) (take i xs)) (sym (length-filter first xs)))
    ∙ at_right (filter first xs) (filter (λ x. not (first x)) xs) (count_by (λ x. not (first x)) (take i xs))
    ∙ at_kept (λ x. not (first x)) xs i other

by_kind : {X : Type 0} (first : X → Bool) (xs : List X) (i : ℕ) (x : X) (b : Bool) → slice_get xs i ≡ Some x → first x ≡ b → slice_get (parted first xs) (new_place first xs i) ≡ slice_get xs i
by_kind first xs i x true is holds = at_front first xs i x is holds
by_kind first xs i x false is fails = at_back first xs i (ap (passes first) is ∙ fails) (ap (passes_if_any (λ y. not (first y))) is ∙ ap not fails)

by_item : {X : Type 0} (first : X → Bool) (xs : List X) (i : ℕ) (o : Option X) → slice_get xs i ≡ o → slice_get (parted first xs) (new_place first xs i) ≡ slice_get xs i
by_item first xs i None is = at_back first xs i (ap (passes first) is) (ap (passes_if_any (λ x. not (first x))) is)
by_item first xs i (Some x) is = by_kind first xs i x (first x) is refl

-- the item at the new place is the one that stood at the old
pub at_new_place : {X : Type 0} (first : X → Bool) (xs : List X) (i : ℕ) → slice_get (parted first xs) (new_place first xs i) ≡ slice_get xs i
at_new_place first xs i = by_item first xs i (slice_get xs i) refl

-- what all items pass, all pass once the list is parted
pub all_parted : {X : Type 0} (q first : X → Bool) (xs : List X) → list_all q xs ≡ true → list_all q (parted first xs) ≡ true
all_parted q first xs all = all_append q (filter first xs) (filter (λ x. not (first x)) xs) (all_filter q first xs all) (all_filter q (λ x. not (first x)) xs all)
