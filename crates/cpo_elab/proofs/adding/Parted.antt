-- The items of a list that pass a test, then the others.
use Rattle.std.proofs.Common.{◌≡◌, ℕ, suc, ◌+◌, Bool, true, false, not, List, [], ◌∷◌, ◌++◌, length, Option, Some, None, is_some, refl, ap, ◌∙◌, arith}
use Rattle.std.specs.List.{filter, filter_map, count_by, sum_by, cons_option}
use Rattle.std.proofs.lemmas.List.{append-nil, length-append}
use Rattle.std.proofs.lemmas.List.Elements.{filter_map-append}
use Rattle.std.proofs.lemmas.List.Sums.{length-filter, sum_by-cons, sum_by-append}
use Rattle.base_laws.specs.laws.Kept.{filter_yes, filter_no, names_kept}
use Rattle.cpo_elab.specs.NamedFirst.{parted}

-- sums and lengths

halves_more : {X : Type 0} (F : List X → ℕ) (g : X → ℕ) (cons : (x : X) (xs : List X) → F (x ∷ xs) ≡ g x + F xs) (p : X → Bool) (x : X) (xs : List X) (b : Bool) → p x ≡ b
    → F (filter p xs) + F (filter (λ y. not (p y)) xs) ≡ F xs → F (filter p (x ∷ xs)) + F (filter (λ y. not (p y)) (x ∷ xs)) ≡ F (x ∷ xs)
halves_more F g cons p x xs true holds rest =
    let one = ap F (filter_yes p x xs holds) ∙ cons x (filter p xs) in
    let other = ap F (filter_no (λ y. not (p y)) x xs (ap not holds)) in
    omega (arith, one, other, cons x xs, rest)
halves_more F g cons p x xs false fails rest =
    let one = ap F (filter_no p x xs fails) in
    let other = ap F (filter_yes (λ y. not (p y)) x xs (ap not fails)) ∙ cons x (filter (λ y. not (p y)) xs) in
    omega (arith, one, other, cons x xs, rest)

halves : {X : Type 0} (F : List X → ℕ) (g : X → ℕ) (cons : (x : X) (xs : List X) → F (x ∷ xs) ≡ g x + F xs) (p : X → Bool) (xs : List X) → F [] ≡ 0 → F (filter p xs) + F (filter (λ y. not (p y)) xs) ≡ F xs
halves F g cons p [] nil = omega (arith, nil)
halves F g cons p (x ∷ xs) nil = halves_more F g cons p x xs (p x) refl (halves F g cons p xs nil)

pub sum_parted : {X : Type 0} (f : X → ℕ) (first : X → Bool) (xs : List X) → sum_by f (parted first xs) ≡ sum_by f xs
sum_parted f first xs = sum_by-append f (filter first xs) (filter (λ x. not (first x)) xs) ∙ halves (sum_by f) f (sum_by-cons f) first xs refl

length_halves : {X : Type 0} (p : X → Bool) (xs : List X) → length (filter p xs) + length (filter (λ x. not (p x)) xs) ≡ length xs
length_halves p xs = halves length (λ x. 1) (λ x xs. one_more (length xs)) p xs refl where
  one_more : (n : ℕ) → suc n ≡ 1 + n
  one_more n = omega arith

pub length_parted : {X : Type 0} (first : X → Bool) (xs : List X) → length (parted first xs) ≡ length xs
length_parted first xs = length-append (filter first xs) (filter (λ x. not (first x)) xs) ∙ length_halves first xs

-- those that pass and those that fail are all
pub count_halves : {X : Type 0} (p : X → Bool) (xs : List X) → count_by p xs + count_by (λ x. not (p x)) xs ≡ length xs
count_halves p xs =
    omega (arith, length-filter p xs, length-filter (λ x. not (p x)) xs, length_halves p xs)

-- the names of the items that have one

unnamed_more : {X Y : Type 0} (h : X → Option Y) (x : X) (xs : List X) (o : Option Y) → h x ≡ o → filter_map h (filter (λ y. not (is_some (h y))) xs) ≡ [] → filter_map h (filter (λ y. not (is_some (h y))) (x ∷ xs)) ≡ []
unnamed_more h x xs None is rest = ap (filter_map h) (filter_yes (λ y. not (is_some (h y))) x xs (ap (λ o. not (is_some o)) is)) ∙ ap (λ o. cons_option o (filter_map h (filter (λ y. not (is_some (h y))) xs))) is ∙ rest
unnamed_more h x xs (Some n) is rest = ap (filter_map h) (filter_no (λ y. not (is_some (h y))) x xs (ap (λ o. not (is_some o)) is)) ∙ rest

unnamed : {X Y : Type 0} (h : X → Option Y) (xs : List X) → filter_map h (filter (λ y. not (is_some (h y))) xs) ≡ []
unnamed h [] = refl
unnamed h (x ∷ xs) = unnamed_more h x xs (h x) refl (unnamed h xs)

pub names_parted : {X Y : Type 0} (h : X → Option Y) (xs : List X) → filter_map h (parted (λ x. is_some (h x)) xs) ≡ filter_map h xs
names_parted h xs =
    filter_map-append h (filter (λ x. is_some (h x)) xs) (filter (λ x. not (is_some (h x))) xs)
    ∙ ap (λ ns. filter_map h (filter (λ x. is_some (h x)) xs) ++ ns) (unnamed h xs)
    ∙ append-nil (filter_map h (filter (λ x. is_some (h x)) xs))
    ∙ names_kept h xs
