use Rattle.std.proofs.Common.{sym, arith}
use Rattle.cpo_text.proofs.pieces.Digits.{value_over}
use Rattle.cpo_text.proofs.word.value.Goals as goal

pub returns-then-next : goal.returns-then-next
returns-then-next c = sym (value_over c.args.digits.now c.loop-b.b-index c.loop-b.value _ c.loop-b-test.true c.loop-b.invariant.same (omega arith))
