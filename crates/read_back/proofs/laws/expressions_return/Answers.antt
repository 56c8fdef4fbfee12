use Rattle.read_back.proofs.expr.Return.{expressions_return}
use Rattle.read_back.proofs.expr.Factor.{factors_return}
use Rattle.read_back.proofs.expr.Uses.{names_intervals}
use Rattle.read_back.proofs.laws.expressions_return.Goals as goal

pub returns : goal.returns
returns c = record { expressions = expressions_return; factors = factors_return; intervals = names_intervals }
