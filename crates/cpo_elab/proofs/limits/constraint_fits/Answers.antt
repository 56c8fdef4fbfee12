use Rattle.std.proofs.Common.{◌∙◌, ◌&&◌}
use Rattle.cpo_elab.proofs.adding.Rooms.{constraint_rooms}
use Rattle.cpo_elab.proofs.limits.constraint_fits.Goals as goal

pub returns : goal.returns
returns c =
    let room = c.both-room.ensures ∙ (λ i. c.has_constraint_room.ensures i && c.written_fits.ensures i) in
    c.both.ensures ∙ (λ i. room i && c.held_fits.ensures i) ∙ constraint_rooms c.args.draft.now c.args.c.now
