use Rattle.prop_hier.proofs.Silence.{more_silent, one_busy}
use Rattle.prop_hier.proofs.relations.ask_relation.Goals as goal

pub returns-in-Some-clause-busy : goal.returns-in-Some-clause-busy
returns-in-Some-clause-busy c = one_busy c.args.model.now c.args.region.now.region c.args.best c.args.relation.now c.args.c c.args.members.now c.loop-i.i (record { 0 = 0 }) c.loop-i-test.true c.in-Some.ensures.busy

pub loop-i-preserved : goal.loop-i-preserved
loop-i-preserved c = more_silent c.args.model.now c.args.region.now.region c.args.best c.args.relation.now c.args.c c.args.members.now c.loop-i.i (record { 0 = 0 }) c.loop-i.invariant c.loop-i-test.true c.in_default.ensures.none
