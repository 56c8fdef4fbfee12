use Rattle.std.proofs.Common.{◌≡◌, ◌<◌, get_or, length, arith}
use Rattle.std.proofs.lemmas.Bool.Decides.{nat_tests}
use Rattle.textline.proofs.Counts.{empty_is_none, zero_first_is_none, count_read}
use Rattle.textline.proofs.number.read_count.Goals as goal
use Rattle.textline.proofs.number.read_count.Goals.{then-word-gt1+else-word-eq48, else-word-gt1}

pub returns-then-is_empty : goal.returns-then-is_empty
returns-then-is_empty c = empty_is_none c.args.word.now (grind (arith, nat_tests))

pub returns-then-word-eq48 : goal.returns-then-word-eq48
returns-then-word-eq48 c = zero_first_is_none c.args.word.now c.if-word-gt1.true c.if-word-eq48.true

pub returns : goal.returns
returns c =
    let some : 0 < length c.args.word.now = grind (arith, nat_tests) in
    let first : get_or c.args.word.now 0 0 ≡ 48 → length c.args.word.now ≡ 1 = elim c.if-word-gt1.branch [ then-word-gt1+else-word-eq48 w ↦ λ h. absurd (w.if-word-eq48.false h) | else-word-gt1 w ↦ λ h. omega arith ] in
    count_read c.args.word.now c.value.result some first c.value.ensures.some c.value.ensures.none
