use Rattle.prop_temporal.specs.laws.Owners.{quiet_from, silent_from}
use Rattle.prop_temporal.specs.laws.Given.{none_by, some_by}
use Rattle.prop_temporal.proofs.ends.ask_constraint.Goals as goal

pub returns-in-Some-clause-busy : goal.returns-in-Some-clause-busy
returns-in-Some-clause-busy c = λ still. c.in-Some.ensures.busy (silent_from c.args.model.now c.args.c 0 c.args.region.now.region c.args.best c.requires.below still)

pub returns-clause-none : goal.returns-clause-none
returns-clause-none c = none_by c.ask_way-2.result (λ second. quiet_from c.args.model.now c.args.c c.args.region.now.region c.args.best c.in_default.ensures.none second) c.ask_way-2.ensures.none

pub returns-clause-busy : goal.returns-clause-busy
returns-clause-busy c = some_by c.ask_way-2.result (λ f busy still. busy (silent_from c.args.model.now c.args.c 1 c.args.region.now.region c.args.best c.requires.below still)) c.ask_way-2.ensures.busy
