use Rattle.prop_state.proofs.Asked.{asked_two, busy_two}
use Rattle.prop_state.proofs.pairs.ask_state.Goals as goal

pub returns-in-None-clause-none : goal.returns-in-None-clause-none
returns-in-None-clause-none c = asked_two c.args.model.now c.args.region.now.region c.args.best c.args.k c.args.a c.args.b c.requires.first c.requires.second c.in-None.ensures.none

pub returns-in-Some-clause-busy : goal.returns-in-Some-clause-busy
returns-in-Some-clause-busy c = busy_two c.args.model.now c.args.region.now.region c.args.best c.args.k c.args.a c.args.b c.requires.first c.requires.second c.in-Some.ensures.busy
