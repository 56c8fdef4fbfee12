-- Lists no two items of which fail a test together, and how often operations run on a machine.
use Rattle.std.proofs.Common.{◌≡◌, ℕ, zero, suc, ◌+◌, ◌/◌, ◌%◌, ◌<◌, ◌≤◌, ◌==◌, Bool, true, false, not, List, [], ◌∷◌, ◌++◌, map, length, refl, sym, ap, ◌∙◌, arith, inl, inr}
use Rattle.std.specs.List.{flat_map, list_all, range_with_len, filter}
use Rattle.std.proofs.lemmas.Bool.{and_parts, and_from, cases_lt}
use Rattle.std.proofs.lemmas.Bool.Decides.{Decides-eqb}
use Rattle.std.proofs.Math.Nat.{div-add-mod, mul-le-mul_left}
use Rattle.base_laws.specs.laws.Items.{all_append}
use Rattle.base_laws.specs.laws.Kept.{filter_yes, filter_no, none_pass}
use Rattle.sched_model.specs.Words.{pairwise}
use Rattle.modelgen.specs.Generated.{operations_on}
use Rattle.generated_models.proofs.shop.Lists.{all_numbers, made_pass}

pub fails : (b : Bool) → (b ≡ true → ⊥) → not b ≡ true
fails true never = absurd (never refl)
fails false never = refl

-- each item of one list passes the test with each of another
abbrev pub crossed : {X : Type 0} → (X → X → Bool) → List X → List X → Bool
crossed r xs ys = list_all (λ x. list_all (r x) ys) xs

pairs_both : {X : Type 0} (r : X → X → Bool) (xs ys : List X) → pairwise r xs ≡ true → pairwise r ys ≡ true → crossed r xs ys ≡ true → pairwise r (xs ++ ys) ≡ true
pairs_both r [] ys first second cross = second
pairs_both r (x ∷ xs) ys first second cross =
    let here = and_parts (list_all (r x) xs) (pairwise r xs) first in
    let there = and_parts (list_all (r x) ys) (crossed r xs ys) cross in
    and_from _ _ (all_append (r x) xs ys here.0 there.0) (pairs_both r xs ys here.1 second there.1)

crossed_none : {X : Type 0} (r : X → X → Bool) (xs : List X) → crossed r xs [] ≡ true
crossed_none r [] = refl
crossed_none r (x ∷ xs) = crossed_none r xs

crossed_both : {X : Type 0} (r : X → X → Bool) (xs ys zs : List X) → crossed r xs ys ≡ true → crossed r xs zs ≡ true → crossed r xs (ys ++ zs) ≡ true
crossed_both r [] ys zs first second = refl
crossed_both r (x ∷ xs) ys zs first second =
    let here = and_parts (list_all (r x) ys) (crossed r xs ys) first in
    let there = and_parts (list_all (r x) zs) (crossed r xs zs) second in
    and_from _ _ (all_append (r x) ys zs here.0 there.0) (crossed_both r xs ys zs here.1 there.1)

crossed_blocks : {X : Type 0} (r : X → X → Bool) (xs : List X) (f : ℕ → List X) (a n : ℕ) → ((i : ℕ) → a ≤ i → i < a + n → crossed r xs (f i) ≡ true) → crossed r xs (flat_map f (range_with_len a n)) ≡ true
crossed_blocks r xs f a zero each = crossed_none r xs
crossed_blocks r xs f a (suc n) each =
    crossed_both r xs (f a) (flat_map f (range_with_len (a + 1) n)) (each a (omega arith) (omega arith)) (crossed_blocks r xs f (a + 1) n (λ i low high. each i (omega (arith, low)) (omega (arith, high))))

-- lists one behind the other, where each passes, and with each behind it
pub pairs_joined : {X : Type 0} (r : X → X → Bool) (f : ℕ → List X) (a n : ℕ) → ((i : ℕ) → a ≤ i → i < a + n → pairwise r (f i) ≡ true)
    → ((i j : ℕ) → a ≤ i → i < j → j < a + n → crossed r (f i) (f j) ≡ true) → pairwise r (flat_map f (range_with_len a n)) ≡ true
pairs_joined r f a zero each cross = refl
pairs_joined r f a (suc n) each cross =
    pairs_both r (f a) (flat_map f (range_with_len (a + 1) n)) (each a (omega arith) (omega arith))
    (pairs_joined r f (a + 1) n (λ i low high. each i (omega (arith, low)) (omega (arith, high))) (λ i j low less high. cross i j (omega (arith, low)) less (omega (arith, high))))
    (crossed_blocks r (f a) f (a + 1) n (λ j low high. cross a j (omega arith) (omega (arith, low)) (omega (arith, high))))

pub pairs_made : {X : Type 0} (r : X → X → Bool) (f : ℕ → X) (a n : ℕ) → ((i j : ℕ) → a ≤ i → i < j → j < a + n → r (f i) (f j) ≡ true) → pairwise r (map f (range_with_len a n)) ≡ true
pairs_made r f a zero each = refl
pairs_made r f a (suc n) each =
    and_from _ _ (made_pass (r (f a)) f (a + 1) n (λ j low high. each a j (omega arith) (omega (arith, low)) (omega (arith, high))))
    (pairs_made r f (a + 1) n (λ i j low less high. each i j (omega (arith, low)) less (omega (arith, high))))

pub pairs_of_one : {X : Type 0} (r : X → X → Bool) (xs : List X) → length xs ≤ 1 → pairwise r xs ≡ true
pairs_of_one r [] few = refl
pairs_of_one r (x ∷ []) few = refl
pairs_of_one r (x ∷ y ∷ ys) few = absurd (omega (arith, few))

-- a test that no two numbers pass keeps one of them at most
kept_more : (p : ℕ → Bool) (a : ℕ) (ks : List ℕ) (b : Bool) → p a ≡ b → (p a ≡ true → filter p ks ≡ []) → length (filter p ks) ≤ 1 → length (filter p (a ∷ ks)) ≤ 1
kept_more p a ks true is none few = let all = filter_yes p a ks is ∙ ap (λ ks. a ∷ ks) (none is) in omega (arith, ap length all)
kept_more p a ks false is none few = omega (arith, few, ap length (filter_no p a ks is))

kept_one : (p : ℕ → Bool) (a n : ℕ) → ((k i : ℕ) → a ≤ k → k < i → i < a + n → p k ≡ true → p i ≡ true → ⊥) → length (filter p (range_with_len a n)) ≤ 1
kept_one p a zero apart = omega arith
kept_one p a (suc n) apart =
    kept_more p a (range_with_len (a + 1) n) (p a) refl
    (λ is. none_pass p (range_with_len (a + 1) n) (all_numbers _ (a + 1) n (λ i low high. fails (p i) (λ other. apart a i (omega arith) (omega (arith, low)) (omega (arith, high)) is other))))
    (kept_one p (a + 1) n (λ k i low less high. apart k i (omega (arith, low)) less (omega (arith, high))))

remainders : (m j k i : ℕ) → k < i → i < m → (j + k) % m ≡ (j + i) % m → ⊥
remainders m j k i less high same =
    let first = div-add-mod (j + k) m in
    let second = div-add-mod (j + i) m in
    elim (cases_lt ((j + k) / m) ((j + i) / m)) [
      | inl below ↦ (let more = mul-le-mul_left {m = (j + k) / m + 1} {n = (j + i) / m} m (omega (arith, below)) in omega (arith, first, second, same, more, less, high))
      | inr past ↦ (let more = mul-le-mul_left {m = (j + i) / m} {n = (j + k) / m} m past in omega (arith, first, second, same, more, less, high))
    ]

-- of a job one operation at most runs on a machine
pub one_operation : (machines q j : ℕ) → length (operations_on machines q j) ≤ 1
one_operation machines q j = kept_one (λ k. (j + k) % machines == q) 0 machines
    (λ k i low less high first second. remainders machines j k i less (omega (arith, high)) ((Decides-eqb ((j + k) % machines) q).0 first ∙ sym ((Decides-eqb ((j + i) % machines) q).0 second)))
