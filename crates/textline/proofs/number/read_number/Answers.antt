use Rattle.std.proofs.Common.{arith}
use Rattle.std.proofs.lemmas.Bool.Decides.{nat_tests}
use Rattle.textline.proofs.Numbers.{empty_is_no_number, over_is_none}
use Rattle.textline.proofs.number.read_number.Goals as goal

pub returns-then-is_empty : goal.returns-then-is_empty
returns-then-is_empty c = empty_is_no_number c.args.word.now (grind (arith, nat_tests))

pub returns : goal.returns
returns c = over_is_none c.args.word.now c.in-Some.size c.if-word-eq45.false c.in-Some.ensures (omega arith) c.if-size.false
