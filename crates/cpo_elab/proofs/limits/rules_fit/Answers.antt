use Rattle.std.proofs.Common.{◌∙◌, ◌&&◌}
use Rattle.cpo_elab.proofs.adding.Made.{rooms_counted}
use Rattle.cpo_elab.proofs.limits.rules_fit.Goals as goal

pub returns : goal.returns
returns c = λ cs many all. c.both.ensures ∙ (λ i. c.has_rules_room.ensures i && c.has_node_room.ensures i) ∙ rooms_counted c.args.draft.now cs _ _ _ c.model.ensures.valid.limits c.room.ensures many all
