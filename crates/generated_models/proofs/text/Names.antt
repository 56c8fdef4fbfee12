-- The names of operations: a letter, digits, an underscore and digits.
use Rattle.std.proofs.Common.{◌≡◌, ℕ, ◌<◌, ◌≤◌, Bool, true, not, List, [], ◌∷◌, ◌++◌, length, nat_lt, refl, ap, ◌∙◌, arith}
use Rattle.std.specs.Prelude.{decimal}
use Rattle.std.specs.List.{list_all, list_any}
use Rattle.std.specs.Char.{is_ascii_digit}
use Rattle.std.specs.Str.{bytes_eq, all_ascii_digits}
use Rattle.std.proofs.lemmas.Bool.{and_parts, and_from, or_right}
use Rattle.std.proofs.lemmas.Bool.Decides.{nat_tests}
use Rattle.std.proofs.lemmas.List.{length-append}
use Rattle.std.proofs.lemmas.Fmt.{digits_decimal, decimal_injective, length-decimal-le}
use Rattle.std.proofs.lemmas.Slice.Eq.{bytes_eq-Decides}
use Rattle.base_laws.specs.laws.Items.{all_append}
use Rattle.base_laws.specs.laws.Numerals.{digits_are_numerals}
use Rattle.sched_model.specs.Valid as valid
use Rattle.cpo_text.specs.Tokens.{is_letter, is_name_byte}
use Rattle.cpo_text.specs.Runs.{left_out_words}
use Rattle.modelgen.specs.Generated.{name}
use Rattle.generated_models.proofs.shop.Apart.{fails}
use Rattle.read_back.specs.Says.{is_chunk}
use Rattle.read_back.specs.Says.Chunk.{name as named}

digits : (n : ℕ) → n < 1000 → all_ascii_digits (decimal n) ≡ true
digits n small = digits_decimal digits_are_numerals n (omega (arith, small))

digits_pass : (p : ℕ → Bool) → ((c : ℕ) → is_ascii_digit c ≡ true → p c ≡ true) → (ds : List ℕ) → all_ascii_digits ds ≡ true → list_all p ds ≡ true
digits_pass p each [] all = refl
digits_pass p each (d ∷ ds) all = let parts = and_parts (is_ascii_digit d) (all_ascii_digits ds) all in and_from (p d) (list_all p ds) (each d parts.0) (digits_pass p each ds parts.1)

behind_pass : (p : ℕ → Bool) → ((c : ℕ) → is_ascii_digit c ≡ true → p c ≡ true) → p 95 ≡ true → (j k : ℕ) → j < 1000 → k < 1000 → list_all p (decimal j ++ 95 ∷ [] ++ decimal k) ≡ true
behind_pass p each line j k first second =
    all_append p (decimal j ++ 95 ∷ []) (decimal k) (all_append p (decimal j) (95 ∷ []) (digits_pass p each (decimal j) (digits j first)) (and_from (p 95) true line refl)) (digits_pass p each (decimal k) (digits k second))

pub name_told : (j k : ℕ) → j < 1000 → k < 1000 → is_chunk (named (name j k)) ≡ true
name_told j k first second = and_from _ _ (behind_pass is_name_byte (λ c digit. or_right (is_letter c) _ digit) refl j k first second) refl

length_behind : (j k : ℕ) → j < 1000 → k < 1000 → length (decimal j ++ 95 ∷ [] ++ decimal k) ≤ 7
length_behind j k first second =
    let a = length-decimal-le 3 j (omega arith) (omega (arith, first)) (omega (arith, first)) in
    let b = length-decimal-le 3 k (omega arith) (omega (arith, second)) (omega (arith, second)) in
    omega (arith, a, b, length-append (decimal j ++ 95 ∷ []) (decimal k), length-append (decimal j) (95 ∷ []))

pub name_length : (j k : ℕ) → j < 1000 → k < 1000 → length (name j k) ≤ 8
name_length j k first second = omega (arith, length_behind j k first second)

pub name_valid : (j k : ℕ) → j < 1000 → k < 1000 → valid.is_name (name j k) ≡ true
name_valid j k first second =
    let short = length_behind j k first second in
    let few : nat_lt (length (decimal j ++ 95 ∷ [] ++ decimal k)) 64 ≡ true = grind (arith, nat_tests, short) in
    and_from _ _ (behind_pass valid.is_name_byte (λ c digit. or_right (valid.is_letter c) _ digit) refl j k first second) few

pub name_kept : (j k : ℕ) → not (list_any (bytes_eq (name j k)) left_out_words) ≡ true
name_kept j k = refl

-- two names are one only where both numbers are

cut : (xs us ys vs : List ℕ) → all_ascii_digits xs ≡ true → all_ascii_digits us ≡ true → xs ++ 95 ∷ [] ++ ys ≡ us ++ 95 ∷ [] ++ vs → (xs ≡ us) × (ys ≡ vs)
cut [] [] ys vs first second is = (refl, (let rest : ys ≡ vs = cc in rest))
cut [] (u ∷ us) ys vs first second is =
    let same : 95 ≡ u = cc is in
    let digit : is_ascii_digit 95 ≡ true = ap is_ascii_digit same ∙ (and_parts (is_ascii_digit u) (all_ascii_digits us) second).0 in
    let no : ⊥ = cc digit in
    absurd no
cut (x ∷ xs) [] ys vs first second is =
    let same : 95 ≡ x = cc is in
    let digit : is_ascii_digit 95 ≡ true = ap is_ascii_digit same ∙ (and_parts (is_ascii_digit x) (all_ascii_digits xs) first).0 in
    let no : ⊥ = cc digit in
    absurd no
cut (x ∷ xs) (u ∷ us) ys vs first second is =
    let same : x ≡ u = cc is in
    let more : xs ++ 95 ∷ [] ++ ys ≡ us ++ 95 ∷ [] ++ vs = cc is in
    let rest = cut xs us ys vs (and_parts (is_ascii_digit x) (all_ascii_digits xs) first).1 (and_parts (is_ascii_digit u) (all_ascii_digits us) second).1 more in
    ((λ i. same i ∷ rest.0 i), rest.1)

pub names_apart : (j k p q : ℕ) → j < 1000 → k < 1000 → p < 1000 → q < 1000 → (j ≡ p → k ≡ q → ⊥) → not (bytes_eq (name j k) (name p q)) ≡ true
names_apart j k p q a b c d apart = fails (bytes_eq (name j k) (name p q)) (λ same.
    let is : name j k ≡ name p q = (bytes_eq-Decides (name j k) (name p q)).0 same in
    let behind : decimal j ++ 95 ∷ [] ++ decimal k ≡ decimal p ++ 95 ∷ [] ++ decimal q = cc is in
    let two = cut (decimal j) (decimal p) (decimal k) (decimal q) (digits j a) (digits p c) behind in
    apart (decimal_injective j p (omega (arith, a)) (omega (arith, c)) two.0) (decimal_injective k q (omega (arith, b)) (omega (arith, d)) two.1))
