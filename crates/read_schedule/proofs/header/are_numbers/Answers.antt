use Rattle.std.proofs.Common.{refl}
use Rattle.read_schedule.proofs.spelling.Values.{next_alike, then_not}
use Rattle.read_schedule.proofs.header.are_numbers.Goals as goal

pub returns-then-not-is_number : goal.returns-then-not-is_number
returns-then-not-is_number c =
    then_not c.args.word.now c.loop-left.rest.now c.split_at.result.0.now c.loop-left.left c.in-Some.at c.loop-left.invariant c.loop-left-test.true c.in-Some.ensures c.split_at.ensures.front c.if-not-is_number.ensures

pub loop-left-preserved : goal.loop-left-preserved
loop-left-preserved c =
    next_alike c.args.word.now c.loop-left.rest.now c.split_at.result.0.now c.split_at-in-loop-left.result.1.now c.loop-left.left _ c.in-Some.at c.loop-left.invariant c.loop-left-test.true refl c.in-Some.ensures c.split_at.ensures.front c.split_at-in-loop-left.ensures.back c.if-not-is_number.ensures
