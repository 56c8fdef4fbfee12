use Rattle.std.proofs.Common.{◌∙◌}
use Rattle.cpo_elab.proofs.adding.Rooms.{room_state}
use Rattle.cpo_elab.proofs.limits.state_fits.Goals as goal

pub returns : goal.returns
returns c = λ d. c.has_state_room.ensures ∙ room_state c.args.draft.now d c.model.ensures.valid.limits
