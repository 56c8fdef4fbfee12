use Rattle.prop_state.proofs.Asked.{asked_three, busy_three}
use Rattle.prop_state.proofs.triples.ask_state3.Goals as goal

pub returns-in-None-clause-none : goal.returns-in-None-clause-none
returns-in-None-clause-none c = asked_three c.args.model.now c.args.region.now.region c.args.best c.args.k c.args.a c.args.x c.args.b c.requires.first c.requires.second c.requires.third c.in-None.ensures.none

pub returns-in-Some-clause-busy : goal.returns-in-Some-clause-busy
returns-in-Some-clause-busy c = busy_three c.args.model.now c.args.region.now.region c.args.best c.args.k c.args.a c.args.x c.args.b c.requires.first c.requires.second c.requires.third c.in-Some.ensures.busy
