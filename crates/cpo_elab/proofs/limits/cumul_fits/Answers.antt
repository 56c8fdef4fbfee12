use Rattle.std.proofs.Common.{◌∙◌, ◌&&◌, length}
use Rattle.cpo_elab.proofs.adding.Rooms.{room_cumul}
use Rattle.cpo_elab.proofs.limits.cumul_fits.Goals as goal

pub returns : goal.returns
returns c = λ d is. c.both.ensures ∙ (λ i. c.has_cumul_room.ensures i && c.nodes_fit.ensures (length d.parts) is i) ∙ room_cumul c.args.draft.now d c.model.ensures.valid.limits
