use Rattle.std.proofs.Common.{◌∙◌, ◌++◌, ◌∷◌, [], ap}
use Rattle.sched_model.specs.Changes.{changes_inside}
use Rattle.sched_model.proofs.levels.Blocks.{on_some, two_inside}
use Rattle.sched_model.proofs.changes.add_two.Goals as goal

pub returns : goal.returns
returns c = on_some c.add-2.result _ _ (λ is. is ∙ ap (λ xs. xs ++ changes_inside c.args.span (c.args.down ∷ [])) c.in_ok-add.ensures ∙ two_inside c.args.span c.args.changes.now.items c.args.up c.args.down) c.add-2.ensures
