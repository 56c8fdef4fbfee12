use Rattle.prop_basic.specs.laws.Silent.{size_unrefuted}
use Rattle.prop_basic.proofs.sizes.ask_size.Goals as goal

pub returns-clause-busy : goal.returns-clause-busy
returns-clause-busy c = λ silent. c.in_ok-guess.ensures.busy (size_unrefuted c.args.model.now c.args.region.now.region c.args.best c.args.x silent)
