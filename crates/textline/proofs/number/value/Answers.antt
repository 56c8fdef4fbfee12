use Rattle.std.proofs.Common.{arith, get_or, refl}
use Rattle.std.proofs.lemmas.Bool.Decides.{nat_tests}
use Rattle.textline.proofs.Counts.{value_over}
use Rattle.textline.proofs.number.value.Goals as goal

pub returns-then-next-from-clause-none : goal.returns-then-next-from-clause-none
returns-then-next-from-clause-none c = λ _ small.
    value_over c.args.digits.now c.loop-b.b-index c.loop-b.value _ (get_or c.args.digits.now c.loop-b.b-index 0) c.loop-b-test.true refl (grind (arith, nat_tests)) (grind (arith, nat_tests)) c.loop-b.invariant.same (omega arith) small
