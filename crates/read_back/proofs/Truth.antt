-- What is known of tests joined by `&&`, `||` and `not`, of tests on numbers, and of tests of all items of a list.
use Rattle.std.proofs.Common.{◌≡◌, ℕ, zero, suc, ◌≤◌, Bool, true, false, ◌||◌, List, [], ◌∷◌, ◌++◌, map, take, drop, nat_lt, nat_eq, refl, sym, ◌∙◌, arith}
use Rattle.std.specs.List.{list_all, list_any}
use Rattle.std.proofs.lemmas.Bool.Decides.{nat_tests}
use Rattle.std.proofs.lemmas.List.Folds.{list_all-append}
use Rattle.std.proofs.lemmas.Bool.{and_parts, and_from, or_from}

-- both of two, and all of more

-- one of two, and none

pub the_other : (p q : Bool) → (p || q) ≡ true → p ≡ false → q ≡ true
the_other true q h is = cc
the_other false q h is = h

-- numbers

pub not_below : (n k : ℕ) → n ≤ k → nat_lt k n ≡ false
not_below n k h = grind (arith, nat_tests)

pub same_number : (n k : ℕ) → nat_eq n k ≡ true → n ≡ k
same_number n k h = grind (arith, nat_tests)

pub is_same : (n k : ℕ) → n ≡ k → nat_eq n k ≡ true
is_same n k h = grind (arith, nat_tests)

-- all items of a list

pub all_parts : {X : Type 0} (p : X → Bool) (xs ys : List X) → list_all p (xs ++ ys) ≡ true → (list_all p xs ≡ true) × (list_all p ys ≡ true)
all_parts p xs ys all = and_parts (list_all p xs) (list_all p ys) (sym (list_all-append p xs ys) ∙ all)

pub all_from : {X : Type 0} (p : X → Bool) (xs ys : List X) (x : X) → list_all p (xs ++ x ∷ ys) ≡ true → p x ≡ true
all_from p xs ys x all = (and_parts (p x) (list_all p ys) (all_parts p xs (x ∷ ys) all).1).0

pub all_take : {X : Type 0} (p : X → Bool) (n : ℕ) (xs : List X) → list_all p xs ≡ true → list_all p (take n xs) ≡ true
all_take p zero xs all = refl
all_take p (suc n) [] all = refl
all_take p (suc n) (x ∷ xs) all = let parts = and_parts (p x) _ all in and_from (p x) _ parts.0 (all_take p n xs parts.1)

pub all_drop : {X : Type 0} (p : X → Bool) (n : ℕ) (xs : List X) → list_all p xs ≡ true → list_all p (drop n xs) ≡ true
all_drop p zero xs all = all
all_drop p (suc n) [] all = refl
all_drop p (suc n) (x ∷ xs) all = all_drop p n xs (and_parts (p x) _ all).1

pub all_map : {X Y : Type 0} (q : Y → Bool) (f : X → Y) (xs : List X) → list_all (λ x. q (f x)) xs ≡ true → list_all q (map f xs) ≡ true
all_map q f [] all = refl
all_map q f (x ∷ xs) all = let parts = and_parts (q (f x)) _ all in and_from (q (f x)) _ parts.0 (all_map q f xs parts.1)

-- no item of a list

pub none_of_map : {X Y : Type 0} (f : X → Y) (p : X → Bool) (q : Y → Bool) → ((x : X) → p x ≡ true → q (f x) ≡ false) → (xs : List X) → list_all p xs ≡ true → list_any q (map f xs) ≡ false
none_of_map f p q weaker [] all = refl
none_of_map f p q weaker (x ∷ xs) all = let parts = and_parts (p x) _ all in or_from (q (f x)) _ (weaker x parts.0) (none_of_map f p q weaker xs parts.1)
