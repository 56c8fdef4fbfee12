-- Words that spell a number which doesn't fit.
use Rattle.std.proofs.Common.{◌≡◌, ℕ, ◌^◌, ◌<◌, ◌≤◌, ℤ, true, false, ◌==◌, List, ◌∷◌, length, ◌∙◌, ap, arith}
use Rattle.std.proofs.lemmas.Bool.Decides.{nat_tests}
use Rattle.std.proofs.lemmas.Fmt.{decimal_injective, signed_decimal_injective}
use Rattle.std.specs.Fmt.{decimal, signed_decimal}
use lib.Signed.{mag}
use Rattle.sched_model.specs.Valid.{is_small}
use Rattle.sched_model.specs.laws.Small.{small_mag}
use Rattle.kernel.specs.Fit.{is_count}
use Rattle.textline.specs.Lines.{Bytes}
use Rattle.logtext.specs.code.Reads.{NoneStands, count_words, moment_words}

pub over_count : (w : Bytes) (n : ℕ) (old new : List Bytes) → old ≡ w ∷ new → w ≡ decimal n → n < 2 ^ 64 → 2 ^ 32 ≤ n → NoneStands count_words is_count old
over_count w n old new stands is range over v rest fit e =
    let small : v < 2 ^ 32 = grind (arith, nat_tests) in
    let same : decimal n ≡ decimal v = cc in
    absurd (omega (arith, over, small, decimal_injective n v range (omega (arith, small)) same))

pub far_moment : (w : Bytes) (t : ℤ) (old new : List Bytes) → old ≡ w ∷ new → w ≡ signed_decimal t → mag t < 2 ^ 63 → is_small t ≡ false → NoneStands moment_words is_small old
far_moment w t old new stands is range far v rest fit e =
    let same : signed_decimal t ≡ signed_decimal v = cc in
    let one = signed_decimal_injective t v range (small_mag v fit) same in
    let small : is_small t ≡ true = ap is_small one ∙ fit in cc

pub same_length : {A : Type 0} (vs : List A) (n : ℕ) → n ≡ length vs → (length vs == n) ≡ true
same_length vs n same = grind (arith, nat_tests)

pub length_same : {A : Type 0} (vs : List A) (n : ℕ) → (length vs == n) ≡ true → n ≡ length vs
length_same vs n same = grind (arith, nat_tests)
