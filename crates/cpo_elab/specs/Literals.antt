-- The values of the numbers that are written.
use Rattle.std.specs.Prelude.{ℕ, ℤ, pos, neg_ℤ, Option, Some, None, if◌then◌else◌, unwrap_or, option_and_then}
use Rattle.cpo_text.specs.Tokens.{bounded}
use Rattle.cpo_text.specs.declared.tree.Int.{Int}
use Rattle.cpo_text.specs.declared.tree.Range.{Range}

-- the value of digits; one above the bound on literals has none, and its statement deserves a refusal
abbrev pub size_of : Option ℕ → ℕ
size_of n = unwrap_or (option_and_then bounded n) 0

-- the value of a number with its sign
abbrev pub int_of : Int → ℤ
int_of i = if i.minus then neg_ℤ (pos (size_of i.size)) else pos (size_of i.size)

-- nothing written is 0
abbrev pub int_or_zero : Option Int → ℤ
int_or_zero None = pos 0
int_or_zero (Some i) = int_of i

-- both ends of a range; one number alone is both
abbrev pub range_of : Range → ℤ × ℤ
range_of r = (int_of r.from, int_of (unwrap_or r.to r.from))

-- an alternative chooses one part where no number is written
abbrev pub count_or_one : Option Int → ℤ
count_or_one None = pos 1
count_or_one (Some n) = int_of n
