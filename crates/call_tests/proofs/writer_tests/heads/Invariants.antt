use Rattle.std.proofs.Common.{◌≡◌, true}
use Rattle.call_tests.proofs.writer_tests.heads.Given as goal

abbrev pub invariant-loop-n : goal.invariant-loop-n
invariant-loop-n l = l.desk.created ≡ true
