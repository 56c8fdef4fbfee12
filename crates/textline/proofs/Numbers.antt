-- Words that spell numbers with a sign.
use Rattle.std.proofs.Common.{◌≡◌, ℕ, suc, ◌^◌, ◌<◌, ◌≤◌, ℤ, pos, negsuc, neg_ℤ, ◌≤ℤ◌, ◌<ℤ◌, ◌∷◌, length, get_or, sym, ◌∙◌, ap, arith, None}
use Rattle.std.proofs.lemmas.Int.{ints}
use Rattle.std.specs.Fmt.{decimal, signed_decimal}
use Rattle.textline.specs.Lines.{Bytes}
use Rattle.textline.specs.Words.{ReadsCount}
use Rattle.textline.proofs.Counts.{is_count, empty_is_none}

-- a count begins with no minus
no_minus : (ds : Bytes) (n : ℕ) → n < 2 ^ 64 → 45 ∷ ds ≡ decimal n → ⊥
no_minus ds n small same = let digits = (is_count (45 ∷ ds) n small same).digits in cc

same_count : (w : Bytes) (m n : ℕ) → m < 2 ^ 64 → n < 2 ^ 64 → w ≡ decimal m → w ≡ decimal n → m ≡ n
same_count w m n small also one other = sym (is_count w m small one).value ∙ (is_count w n also other).value

-- behind a minus stand the digits of a number that isn't zero
pub no_digits : (ds : Bytes) → ReadsCount ds None → (z : ℤ) → neg_ℤ (pos (2 ^ 63)) ≤ℤ z → z <ℤ pos (2 ^ 63) → 45 ∷ ds ≡ signed_decimal z → ⊥
no_digits ds none (pos n) low high same = no_minus ds n (omega (arith, ints, high)) same
no_digits ds none (negsuc n) low high same = none (suc n) (omega (arith, ints, low)) (cc)

pub zero_digits : (ds : Bytes) (m : ℕ) → ds ≡ decimal m → m ≡ 0 → (z : ℤ) → neg_ℤ (pos (2 ^ 63)) ≤ℤ z → z <ℤ pos (2 ^ 63) → 45 ∷ ds ≡ signed_decimal z → ⊥
zero_digits ds m is none (pos n) low high same = no_minus ds n (omega (arith, ints, high)) same
zero_digits ds m is none (negsuc n) low high same =
    let too : ds ≡ decimal (suc n) = cc in absurd (omega (arith, none, same_count ds m (suc n) (omega (arith, none)) (omega (arith, ints, low)) is too))

pub many_digits : (ds : Bytes) (m : ℕ) → ds ≡ decimal m → m < 2 ^ 64 → 2 ^ 63 < m → (z : ℤ) → neg_ℤ (pos (2 ^ 63)) ≤ℤ z → z <ℤ pos (2 ^ 63) → 45 ∷ ds ≡ signed_decimal z → ⊥
many_digits ds m is small over (pos n) low high same = no_minus ds n (omega (arith, ints, high)) same
many_digits ds m is small over (negsuc n) low high same =
    let too : ds ≡ decimal (suc n) = cc in
    let least : n < 2 ^ 63 = omega (arith, ints, low) in absurd (omega (arith, over, least, same_count ds m (suc n) small (omega (arith, least)) is too))

pub empty_is_no_number : (w : Bytes) → length w ≡ 0 → (z : ℤ) → neg_ℤ (pos (2 ^ 63)) ≤ℤ z → z <ℤ pos (2 ^ 63) → w ≡ signed_decimal z → ⊥
empty_is_no_number w none (pos n) low high is = empty_is_none w none n (omega (arith, ints, high)) is
empty_is_no_number w none (negsuc n) low high is = absurd (omega (arith, none, ap length is))

-- with no minus in front
pub over_is_none : (w : Bytes) (m : ℕ) → (get_or w 0 0 ≡ 45 → ⊥) → w ≡ decimal m → m < 2 ^ 64 → 2 ^ 63 ≤ m → (z : ℤ) → neg_ℤ (pos (2 ^ 63)) ≤ℤ z → z <ℤ pos (2 ^ 63) → w ≡ signed_decimal z → ⊥
over_is_none w m plain is small over (pos n) low high same =
    let most : n < 2 ^ 63 = omega (arith, ints, high) in absurd (omega (arith, over, most, same_count w m n small (omega (arith, most)) is same))
over_is_none w m plain is small over (negsuc n) low high same = plain (ap (λ v. get_or v 0 0) same)
