use Rattle.std.proofs.Common.{rules, List, [], subst, sym}
use Rattle.sched_base.specs.declared.ids.Itv.{Itv}
use Rattle.findings.specs.code.Reads.{IsUnrefuted}
use Rattle.refute_basic.specs.declared.witness.BasicWitness.TheVariants.{Arc}
use Rattle.refute_basic.specs.Basic.{refutes}
use Rattle.prop_temporal.specs.laws.Arcs.{arc_silent, arc_unrefuted}
use Rattle.prop_temporal.specs.laws.Silence.{surely_silent}
use Rattle.prop_temporal.proofs.ends.ask_way.Goals as goal

pub returns-in-None-clause-none : goal.returns-in-None-clause-none
returns-in-None-clause-none c = arc_silent c.args.model.now c.args.region.now.region c.args.best c.args.c c.args.d
    (subst (λ (xs : List Itv). IsUnrefuted refutes c.args.model.now c.args.region.now.region c.args.best (Arc c.args.c c.args.d) xs []) c.requires.ends c.in-None.ensures.none)

pub returns-in-Some-clause-busy : goal.returns-in-Some-clause-busy
returns-in-Some-clause-busy c = λ silent. c.in-Some.ensures.busy
    (subst (λ (xs : List Itv). IsUnrefuted refutes c.args.model.now c.args.region.now.region c.args.best (Arc c.args.c c.args.d) xs []) (sym c.requires.ends) (arc_unrefuted c.args.model.now c.args.region.now.region c.args.best c.args.c c.args.d silent))

pub returns-then-is_surely_silent-clause-none : goal.returns-then-is_surely_silent-clause-none
returns-then-is_surely_silent-clause-none c = surely_silent c.args.model.now c.args.region.now.region c.args.best c.args.c c.args.d (c.is_surely_silent.ensures (search rules))
