-- Lists that are made number by number, and what holds of all their items.
use Rattle.std.proofs.Common.{◌≡◌, ℕ, zero, suc, ◌+◌, ◌*◌, ◌<◌, ◌≤◌, Bool, true, List, [], ◌∷◌, ◌++◌, map, length, slice_get, Some, nat_lt, refl, ap, ◌∙◌, arith}
use Rattle.std.specs.List.{flat_map, range_with_len, list_all, filter}
use Rattle.std.proofs.lemmas.Bool.{and_from}
use Rattle.std.proofs.lemmas.Bool.Decides.{nat_tests}
use Rattle.std.proofs.lemmas.List.{map-append}
use Rattle.std.proofs.lemmas.List.Folds.{list_all-map}
use Rattle.std.proofs.lemmas.List.FromFn.{length-map-range_with_len}
use Rattle.base_laws.specs.laws.Items.{all_append}
use Rattle.base_laws.specs.laws.Kept.{all_filter}
use Rattle.base_laws.specs.laws.Places.{same_item, at_right}

-- what holds of each number of a range
pub all_numbers : (p : ℕ → Bool) (a n : ℕ) → ((i : ℕ) → a ≤ i → i < a + n → p i ≡ true) → list_all p (range_with_len a n) ≡ true
all_numbers p a zero each = refl
all_numbers p a (suc n) each =
    and_from (p a) (list_all p (range_with_len (a + 1) n)) (each a (omega arith) (omega arith)) (all_numbers p (a + 1) n (λ i low high. each i (omega (arith, low)) (omega (arith, high))))

pub made_pass : {X : Type 0} (p : X → Bool) (f : ℕ → X) (a n : ℕ) → ((i : ℕ) → a ≤ i → i < a + n → p (f i) ≡ true) → list_all p (map f (range_with_len a n)) ≡ true
made_pass p f a n each = list_all-map p f (range_with_len a n) ∙ all_numbers (λ i. p (f i)) a n each

pub kept_pass : {X : Type 0} (p : X → Bool) (f : ℕ → X) (q : ℕ → Bool) (a n : ℕ) → ((i : ℕ) → a ≤ i → i < a + n → p (f i) ≡ true) → list_all p (map f (filter q (range_with_len a n))) ≡ true
kept_pass p f q a n each = list_all-map p f (filter q (range_with_len a n)) ∙ all_filter (λ i. p (f i)) q (range_with_len a n) (all_numbers (λ i. p (f i)) a n each)

pub joined_pass : {X : Type 0} (p : X → Bool) (f : ℕ → List X) (a n : ℕ) → ((i : ℕ) → a ≤ i → i < a + n → list_all p (f i) ≡ true) → list_all p (flat_map f (range_with_len a n)) ≡ true
joined_pass p f a zero each = refl
joined_pass p f a (suc n) each =
    all_append p (f a) (flat_map f (range_with_len (a + 1) n)) (each a (omega arith) (omega arith)) (joined_pass p f (a + 1) n (λ i low high. each i (omega (arith, low)) (omega (arith, high))))

-- two ways that agree on the numbers make the same list
pub same_made : {X : Type 0} (f g : ℕ → X) (a n : ℕ) → ((i : ℕ) → a ≤ i → i < a + n → f i ≡ g i) → map f (range_with_len a n) ≡ map g (range_with_len a n)
same_made f g a zero each = refl
same_made f g a (suc n) each =
    let rest = same_made f g (a + 1) n (λ i low high. each i (omega (arith, low)) (omega (arith, high))) in
    let here = each a (omega arith) (omega arith) in
    λ i. here i ∷ rest i

pub same_joined : {X : Type 0} (f g : ℕ → List X) (a n : ℕ) → ((i : ℕ) → a ≤ i → i < a + n → f i ≡ g i) → flat_map f (range_with_len a n) ≡ flat_map g (range_with_len a n)
same_joined f g a zero each = refl
same_joined f g a (suc n) each =
    let rest = same_joined f g (a + 1) n (λ i low high. each i (omega (arith, low)) (omega (arith, high))) in
    let here = each a (omega arith) (omega arith) in
    λ i. here i ++ rest i

-- what is made of the items of lists is made list by list
pub made_of_made : {X Y Z : Type 0} (g : Y → Z) (f : X → Y) (xs : List X) → map g (map f xs) ≡ map (λ x. g (f x)) xs
made_of_made g f [] = refl
made_of_made g f (x ∷ xs) = ap (λ zs. g (f x) ∷ zs) (made_of_made g f xs)

pub made_of_joined : {X Y Z : Type 0} (g : Y → Z) (f : X → List Y) (xs : List X) → map g (flat_map f xs) ≡ flat_map (λ x. map g (f x)) xs
made_of_joined g f [] = refl
made_of_joined g f (x ∷ xs) = map-append g (f x) (flat_map f xs) ∙ ap (λ zs. map g (f x) ++ zs) (made_of_joined g f xs)

-- the item at a place of a list that is made
pub at_number : {X : Type 0} (f : ℕ → X) (a n k : ℕ) → k < n → slice_get (map f (range_with_len a n)) k ≡ Some (f (a + k))
at_number f a zero k less = absurd (omega (arith, less))
at_number f a (suc n) zero less = let same : a ≡ a + 0 = omega arith in ap (λ i. Some (f i)) same
at_number f a (suc n) (suc k) less = let same : a + 1 + k ≡ a + suc k = omega arith in at_number f (a + 1) n k (omega (arith, less)) ∙ ap (λ i. Some (f i)) same

-- of lists of n items each, one behind the other, the k-th item of the j-th stands at j * n + k
pub at_block : {X : Type 0} (f : ℕ → ℕ → X) (n a b j k : ℕ) → j < b → k < n → slice_get (flat_map (λ j. map (f j) (range_with_len 0 n)) (range_with_len a b)) (j * n + k) ≡ Some (f (a + j) k)
at_block f n a zero j k low less = absurd (omega (arith, low))
at_block f n a (suc b) zero k low less =
    let first = map (f a) (range_with_len 0 n) in
    let rest = flat_map (λ j. map (f j) (range_with_len 0 n)) (range_with_len (a + 1) b) in
    let size = length-map-range_with_len (f a) 0 n in
    let place : 0 * n + k ≡ k = omega arith in
    let within : nat_lt k (length first) ≡ true = grind (arith, nat_tests, size, less) in
    let none : 0 + k ≡ k = omega arith in
    let same : a ≡ a + 0 = omega arith in
    ap (slice_get (first ++ rest)) place ∙ same_item first rest k within ∙ at_number (f a) 0 n k less ∙ ap (λ i. Some (f a i)) none ∙ ap (λ i. Some (f i k)) same
at_block f n a (suc b) (suc j) k low less =
    let first = map (f a) (range_with_len 0 n) in
    let rest = flat_map (λ j. map (f j) (range_with_len 0 n)) (range_with_len (a + 1) b) in
    let size = length-map-range_with_len (f a) 0 n in
    let place : suc j * n + k ≡ length first + (j * n + k) = omega (arith, size) in
    let same : a + 1 + j ≡ a + suc j = omega arith in
    ap (slice_get (first ++ rest)) place ∙ at_right first rest (j * n + k) ∙ at_block f n (a + 1) b j k (omega (arith, low)) less ∙ ap (λ i. Some (f i k)) same
