use Rattle.std.proofs.Common.{◌≡◌, ◌<◌, ◌^◌, drop}
use Rattle.std.specs.Str.{all_ascii_digits}
use Rattle.std.specs.Str.Parse.{digits_value, digits_value_after}
use Rattle.textline.proofs.number.value.Given as goal

abbrev pub invariant-loop-b : goal.invariant-loop-b
invariant-loop-b l = record {
  digits : all_ascii_digits (drop l.b-index l.digits) ≡ all_ascii_digits l.digits;
  same : digits_value_after 10 l.value (drop l.b-index l.digits) ≡ digits_value 10 l.digits;
  small : l.value < 2 ^ 64;
}
