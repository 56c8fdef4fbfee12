use Rattle.std.proofs.Common.{◌∙◌}
use Rattle.cpo_elab.proofs.adding.Rooms.{room_sequence}
use Rattle.cpo_elab.proofs.limits.sequence_fits.Goals as goal

pub returns : goal.returns
returns c = λ d is. c.has_sequence_room.ensures ∙ room_sequence c.args.draft.now d c.args.members c.model.ensures.valid.limits is
