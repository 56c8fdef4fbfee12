use Rattle.given_files.proofs.Failing.{HoldBefore}
use Rattle.given_files.proofs.testing.first_failing.Given as goal

abbrev pub invariant-loop-i : goal.invariant-loop-i
invariant-loop-i l = HoldBefore l.model l.a l.i
