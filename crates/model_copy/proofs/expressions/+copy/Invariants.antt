use Rattle.std.proofs.Common.{◌≡◌, ◌++◌, drop}
use Rattle.model_copy.proofs.expressions.+copy.Given as goal

abbrev pub invariant-copy_exprs-loop-part : goal.invariant-copy_exprs-loop-part
invariant-copy_exprs-loop-part l = l.found.items ++ drop l.part-index l.parts ≡ l.parts
