-- The first word of a text.
use Rattle.std.proofs.Common.{◌≡◌, ℕ, ◌+◌, ◌<◌, ◌≤◌, Bool, true, false, cond, [], ◌∷◌, length, take, drop, Some, None, nat_lt, arith, eqb, refl, sym, ◌∙◌}
use Rattle.std.specs.List.{position, position_or_len}
use Rattle.std.proofs.lemmas.List.Sums.{fails_before_first}
use Rattle.std.proofs.lemmas.List.Splits.{slice_split_none, slice_split_first}
use Rattle.std.proofs.lemmas.Bool.Decides.{nat_tests}
use Rattle.textline.specs.Lines.{Bytes, words_of}
use Rattle.textline.specs.laws.Lines.{first_of}

is_past : (p : ℕ → Bool) (xs : Bytes) → position p xs ≡ None → length xs ≤ position_or_len p xs
is_past p xs none = past (nat_lt (position_or_len p xs) (length xs)) refl none
  where
    past : (b : Bool) → nat_lt (position_or_len p xs) (length xs) ≡ b → cond b (Some (position_or_len p xs)) None ≡ None → length xs ≤ position_or_len p xs
    past true is h = cc
    past false is h = grind (arith, nat_tests)

is_at : (p : ℕ → Bool) (xs : Bytes) (at : ℕ) → position p xs ≡ Some at → (at ≡ position_or_len p xs) × (at < length xs)
is_at p xs at some = found (nat_lt (position_or_len p xs) (length xs)) refl some
  where
    found : (b : Bool) → nat_lt (position_or_len p xs) (length xs) ≡ b → cond b (Some (position_or_len p xs)) None ≡ Some at → (at ≡ position_or_len p xs) × (at < length xs)
    found true is h = let same : at ≡ position_or_len p xs = cc in (same, grind (arith, nat_tests))
    found false is h = cc

pub one_word : (xs : Bytes) → position (λ b. eqb b 32) xs ≡ None → words_of xs ≡ xs ∷ []
one_word xs none = slice_split_none (λ b. eqb b 32) xs (λ k d within. fails_before_first (λ b. eqb b 32) xs k d (omega (arith, within, is_past (λ b. eqb b 32) xs none)))

pub first_word : (xs : Bytes) (at : ℕ) → position (λ b. eqb b 32) xs ≡ Some at → (at < length xs) × (words_of xs ≡ take at xs ∷ words_of (drop (at + 1) xs))
first_word xs at some = let there = is_at (λ b. eqb b 32) xs at some in (there.1, rw there.0 (slice_split_first (λ b. eqb b 32) xs 0 (omega (arith, there.0, there.1))))

pub some_word : (bytes : Bytes) → words_of bytes ≡ [] → ⊥
some_word bytes none = let first = first_of bytes in let same = sym first.2 ∙ none in cc
