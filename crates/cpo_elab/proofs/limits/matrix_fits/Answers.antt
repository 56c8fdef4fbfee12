use Rattle.std.proofs.Common.{◌∙◌}
use Rattle.cpo_elab.proofs.adding.Rooms.{room_matrix}
use Rattle.cpo_elab.proofs.limits.matrix_fits.Goals as goal

pub returns : goal.returns
returns c = λ d. c.has_matrix_room.ensures ∙ room_matrix c.args.draft.now d c.model.ensures.valid.limits
