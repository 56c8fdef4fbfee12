-- Classes of bytes exclude one another, and prefixes of a class.
use Rattle.std.proofs.Common.{◌≡◌, ℕ, zero, suc, ◌+◌, ◌≤◌, ◌==◌, Bool, true, false, ◌&&◌, cond, List, [], ◌∷◌, length, take, refl, arith}
use Rattle.std.specs.List.{list_all, prefix_len}
use Rattle.std.proofs.lemmas.Bool.Decides.{nat_tests}
use Rattle.cpo_text.specs.Tokens.{is_letter, is_digit, is_blank, is_sign_byte, is_sign_pair}

-- a value chosen by a test
pub either : {X : Type 0} (P : X → Type 0) (t : Bool) (a b : X) → (t ≡ true → P a) → (t ≡ false → P b) → P (cond t a b)
either P true a b f g = f refl
either P false a b f g = g refl

-- not a letter, a digit, a blank or a quote
pub record IsPlain (c : ℕ) : Type 0 where
  pub letter : is_letter c ≡ false
  pub digit : is_digit c ≡ false
  pub blank : is_blank c ≡ false
  pub quote : (c == 34) ≡ false

pub digit_no_letter : (c : ℕ) → is_digit c ≡ true → is_letter c ≡ false
digit_no_letter c is = grind (arith, nat_tests)

pub blank_no_letter : (c : ℕ) → is_blank c ≡ true → is_letter c ≡ false
blank_no_letter c is = grind (arith, nat_tests)

pub blank_no_digit : (c : ℕ) → is_blank c ≡ true → is_digit c ≡ false
blank_no_digit c is = grind (arith, nat_tests)

pub sign_plain : (c : ℕ) → is_sign_byte c ≡ true → IsPlain c
sign_plain c is = record { letter = grind (arith, nat_tests); digit = grind (arith, nat_tests); blank = grind (arith, nat_tests); quote = grind (arith, nat_tests) }

pub pair_plain : (a b : ℕ) → is_sign_pair a b ≡ true → IsPlain a
pair_plain a b is = record { letter = grind (arith, nat_tests); digit = grind (arith, nat_tests); blank = grind (arith, nat_tests); quote = grind (arith, nat_tests) }

-- the bytes of a prefix pass the test
pub prefix_passes : (p : ℕ → Bool) (bs : List ℕ) → list_all p (take (prefix_len p bs) bs) ≡ true
prefix_passes p [] = refl
prefix_passes p (b ∷ bs) = decided (p b) refl (prefix_passes p bs)
  where
    after_one : (n : ℕ) → p b ≡ true → list_all p (take n bs) ≡ true → list_all p (take (1 + n) (b ∷ bs)) ≡ true
    after_one n is h = let size : 1 + n ≡ suc n = omega arith in rw (size, is) h

    decided : (t : Bool) → p b ≡ t → list_all p (take (prefix_len p bs) bs) ≡ true → list_all p (take (cond t (1 + prefix_len p bs) 0) (b ∷ bs)) ≡ true
    decided true is h = after_one (prefix_len p bs) is h
    decided false is h = refl

-- and no longer ones do
pub prefix_most : (p : ℕ → Bool) (bs : List ℕ) (m : ℕ) → m ≤ length bs → list_all p (take m bs) ≡ true → m ≤ prefix_len p bs
prefix_most p [] m within passes = omega arith
prefix_most p (b ∷ bs) zero within passes = omega arith
prefix_most p (b ∷ bs) (suc m) within passes = decided (p b) refl (prefix_most p bs m (omega arith)) passes
  where
    decided : (t : Bool) → p b ≡ t → (list_all p (take m bs) ≡ true → m ≤ prefix_len p bs) → (t && list_all p (take m bs)) ≡ true → suc m ≤ cond t (1 + prefix_len p bs) 0
    decided true is more passes = let n = more passes in omega arith
    decided false is more passes = cc
