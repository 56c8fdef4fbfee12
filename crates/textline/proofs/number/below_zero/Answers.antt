use Rattle.std.proofs.Common.{arith}
use Rattle.textline.proofs.Numbers.{no_digits, zero_digits, many_digits}
use Rattle.textline.proofs.number.below_zero.Goals as goal

pub returns-in_default : goal.returns-in_default
returns-in_default c = no_digits c.args.digits.now c.in_default.ensures

pub returns-then-size-eq0 : goal.returns-then-size-eq0
returns-then-size-eq0 c = zero_digits c.args.digits.now c.in-Some.size c.in-Some.ensures c.if-size-eq0.true

pub returns-then-size : goal.returns-then-size
returns-then-size c = many_digits c.args.digits.now c.in-Some.size c.in-Some.ensures (omega arith) c.if-size.true
