use Rattle.cpo_elab.proofs.judging.Defining.{interval_name}
use Rattle.cpo_elab.proofs.build.item_of.Goals as goal

pub returns-in_ok-def-in-IntervalVar-clause-name : goal.returns-in_ok-def-in-IntervalVar-clause-name
returns-in_ok-def-in-IntervalVar-clause-name c = interval_name c.args.name.now c.as_slice.result.now c.in_ok-def-in-IntervalVar.def c.in_ok-def-in-IntervalVar.ensures
