use Rattle.kernel.specs.Promises.{Ready}
use Rattle.call_tests.proofs.step_tests.wrong_from.Given as goal

abbrev pub invariant-loop-n : goal.invariant-loop-n
invariant-loop-n l = Ready l.model l.kernel
