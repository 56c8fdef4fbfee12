use Rattle.read_back.proofs.expr.Said.{expressions_are_said}
use Rattle.read_back.proofs.laws.expressions_are_said.Goals as goal

pub returns : goal.returns
returns c = expressions_are_said
