use Rattle.std.proofs.Common.{◌<◌, ◌≤◌, length, subst}
use Rattle.given_files.proofs.Failing.{one_more, first_fails, none_fails}
use Rattle.given_files.proofs.testing.first_failing.Goals as goal

pub returns-then-not-holds : goal.returns-then-not-holds
returns-then-not-holds c = first_fails c.args.model.now c.args.a.now c.loop-i.i c.holds.result (subst (λ xs. c.loop-i.i < length xs) c.constraints-i-end.ensures.list c.loop-i-test.true) c.loop-i.invariant c.holds.ensures.sentence c.if-not-holds.true

pub loop-i-preserved : goal.loop-i-preserved
loop-i-preserved c = one_more c.args.model.now c.args.a.now c.loop-i.i c.holds.result c.loop-i.invariant c.holds.ensures.sentence c.if-not-holds.false

pub returns : goal.returns
returns c = none_fails c.args.model.now c.args.a.now c.loop-i.i c.requires (subst (λ xs. length xs ≤ c.loop-i.i) c.constraints-i-end.ensures.list c.loop-i-test.false) c.loop-i.invariant
