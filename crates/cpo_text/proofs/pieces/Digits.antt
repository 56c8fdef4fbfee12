-- The value of digits grows with each of them.
use Rattle.std.proofs.Common.{◌≡◌, ℕ, ◌+◌, ◌-◌, ◌*◌, ◌^◌, ◌<◌, List, length, drop, get_or, map, None, arith}
use Rattle.std.specs.Int.Digits.{number_from_digits_after}
use Rattle.std.proofs.lemmas.Int.Digits.{number_after_ge}
use Rattle.std.proofs.lemmas.List.{at_drop_more}
use Rattle.std.proofs.lemmas.Bool.Decides.{nat_tests}
use Rattle.cpo_text.specs.Tokens.{bounded}

above : (n : ℕ) → 2 ^ 62 < n → bounded n ≡ None
above n more = grind (arith, nat_tests)

pub value_over : (ds : List ℕ) (i v total : ℕ) → i < length ds → number_from_digits_after 10 v (map (λ b. b - 48) (drop i ds)) ≡ total → 2 ^ 62 < v * 10 + (get_or ds i 0 - 48) → bounded total ≡ None
value_over ds i v total within same more =
    let next : ℕ = v * 10 + (get_or ds i 0 - 48) in
    let step = at_drop_more (λ xs. number_from_digits_after 10 v (map (λ b. b - 48) xs)) ds i 0 within in
    let least = number_after_ge 10 next (map (λ b. b - 48) (drop (i + 1) ds)) (omega arith) in
    above total (omega (arith, step, least, same))
