use Rattle.std.proofs.Common.{ap, ◌∙◌, refl}
use Rattle.cpo_text.specs.declared.tree.Statement.TheVariants.{Define}
use Rattle.cpo_elab.proofs.judging.Calendars.{new_steps, new_function}
use Rattle.cpo_elab.proofs.stage.Stage.with_definition.Goals as goal

pub with_function-requires-clause-steps : goal.with_function-requires-clause-steps
with_function-requires-clause-steps c =
    new_steps c.args.self c.args.s.now c.args.name.now c.args.name.now c.in-StepFunction.pairs _ (c.requires.is ∙ ap (λ d. Define c.args.name.now d) c.in-StepFunction.is) c.as_slice.ensures c.requires.clear

pub with_function-requires-clause-fresh : goal.with_function-requires-clause-fresh
with_function-requires-clause-fresh c =
    new_function c.args.self c.args.s.now c.args.name.now c.args.name.now c.in-StepFunction.pairs (c.requires.is ∙ ap (λ d. Define c.args.name.now d) c.in-StepFunction.is) refl c.requires.clear
