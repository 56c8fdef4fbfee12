use Rattle.prop_unary.proofs.Resting.{silent_before}
use Rattle.prop_unary.proofs.rest.is_silent_before.Goals as goal

pub returns : goal.returns
returns c = λ best told. silent_before c.args.model.now c.args.region.now.region best c.args.d.now c.args.first.member c.args.second.member c.requires.is (c.are_surely_silent.ensures told)
