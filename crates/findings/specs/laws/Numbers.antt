-- What a guess at the end of a cell makes of the numbers of an interval.
use Rattle.std.specs.Prelude.{◌≡◌, true, ◌≤ℤ◌}
use Rattle.std.proofs.Common.{arith}
use Rattle.std.proofs.lemmas.Int.{ints}
use Rattle.region.specs.declared.types.Bounds.{Bounds}
use Rattle.region.specs.declared.types.Claim.{Claim}
use Rattle.region.specs.declared.types.Claim.TheVariants as claim
use Rattle.region.specs.Claims.{guessed}
use Rattle.region.specs.Looks.{ect_in, lst_in}
use Rattle.findings.specs.Ends.{is_end_at}
use Rattle.findings.specs.code.Numbers.{highest_end, lowest_start}

-- under a claim at its end
pub least_start : (k : Claim) (c : Bounds) → is_end_at k c ≡ true → lowest_start c ≤ℤ lst_in (guessed k c)
least_start claim.Present c h = grind (arith, ints)
least_start claim.Absent c h = grind (arith, ints)
least_start (claim.StartLe t) c h = grind (arith, ints)
least_start (claim.StartGe t) c h = grind (arith, ints)
least_start (claim.EndLe t) c h = grind (arith, ints)
least_start (claim.EndGe t) c h = grind (arith, ints)

pub greatest_end : (k : Claim) (c : Bounds) → is_end_at k c ≡ true → ect_in (guessed k c) ≤ℤ highest_end c
greatest_end claim.Present c h = grind (arith, ints)
greatest_end claim.Absent c h = grind (arith, ints)
greatest_end (claim.StartLe t) c h = grind (arith, ints)
greatest_end (claim.StartGe t) c h = grind (arith, ints)
greatest_end (claim.EndLe t) c h = grind (arith, ints)
greatest_end (claim.EndGe t) c h = grind (arith, ints)

-- and as it is told
pub plain_start : (c : Bounds) → lowest_start c ≤ℤ lst_in c
plain_start c = grind (arith, ints)

pub plain_end : (c : Bounds) → ect_in c ≤ℤ highest_end c
plain_end c = grind (arith, ints)
