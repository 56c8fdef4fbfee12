use Rattle.read_back.proofs.expr.Formed.{expressions_are_formed}
use Rattle.read_back.proofs.laws.expressions_are_formed.Goals as goal

pub returns : goal.returns
returns c = expressions_are_formed
