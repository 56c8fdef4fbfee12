use Rattle.std.proofs.Common.{◌≡◌, ◌≤◌, ◌-◌, ◌^◌, drop, map}
use Rattle.std.specs.Int.Digits.{number_from_digits_after}
use Rattle.cpo_text.specs.Tokens.{digits_value}
use Rattle.cpo_text.proofs.word.value.Given as goal

abbrev pub invariant-loop-b : goal.invariant-loop-b
invariant-loop-b l = record {
  same : number_from_digits_after 10 l.value (map (λ b. b - 48) (drop l.b-index l.digits)) ≡ digits_value l.digits;
  small : l.value ≤ 2 ^ 62;
}
