use Rattle.std.proofs.Common.{◌∙◌}
use Rattle.cpo_elab.proofs.adding.Rooms.{room_interval}
use Rattle.cpo_elab.proofs.limits.interval_fits.Goals as goal

pub returns : goal.returns
returns c = λ d. c.has_interval_room.ensures ∙ room_interval c.args.draft.now d c.model.ensures.valid.limits
