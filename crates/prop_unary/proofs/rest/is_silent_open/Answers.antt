use Rattle.region.specs.declared.types.OrderCell.TheVariants.{Unknown}
use Rattle.prop_unary.proofs.Noted.{silent_by_test}
use Rattle.prop_unary.proofs.rest.is_silent_open.Goals as goal

pub returns : goal.returns
returns c = λ best told. silent_by_test c.args.model.now c.args.region.now.region best c.args.d.now Unknown c.args.first.member c.args.second.member c.requires.is (c.is_surely_silent.ensures told)
