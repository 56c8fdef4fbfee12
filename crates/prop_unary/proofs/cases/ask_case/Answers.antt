use Rattle.prop_unary.specs.laws.Silence.{silent_from_asked, asked_from_silent}
use Rattle.prop_unary.proofs.cases.ask_case.Goals as goal

pub returns-in-None-clause-none : goal.returns-in-None-clause-none
returns-in-None-clause-none c = silent_from_asked c.args.model.now c.args.region.now.region c.args.best c.args.d.now c.args.a c.args.b c.args.k c.requires.is c.in-None.ensures.none

pub returns-in-Some-clause-busy : goal.returns-in-Some-clause-busy
returns-in-Some-clause-busy c = λ silent. c.in-Some.ensures.busy (asked_from_silent c.args.model.now c.args.region.now.region c.args.best c.args.d.now c.args.a c.args.b c.args.k c.requires.of c.requires.is silent)
