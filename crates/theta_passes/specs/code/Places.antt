-- Sets of places below 64, a bit for each.
use Rattle.std.specs.Prelude.{Bool, nat_eq, ℕ}
use Rattle.std.specs.Int.{bit_at}

-- a place is in the set where its bit is 1
abbrev pub has_place : ℕ → ℕ → Bool
has_place set k = nat_eq (bit_at set k) 1
