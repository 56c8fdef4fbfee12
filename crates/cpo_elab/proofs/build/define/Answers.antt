use Rattle.cpo_elab.specs.Elaborated.{defined}
use Rattle.cpo_elab.proofs.judging.Defining.{add_item}
use Rattle.cpo_elab.proofs.build.define.Goals as goal

pub with_named-requires-clause-valid : goal.with_named-requires-clause-valid
with_named-requires-clause-valid c = add_item c.args.draft (defined c.args.draft c.args.name.now c.args.d.now) c.in_ok-item.item c.in_ok-item.ensures.item c.requires.valid
