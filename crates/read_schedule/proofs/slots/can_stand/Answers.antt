use Rattle.read_schedule.proofs.given.Standing.{stands}
use Rattle.read_schedule.proofs.slots.can_stand.Goals as goal

pub returns : goal.returns
returns c = stands c.args.d.now c.can_reach.result c.requires c.if-d.false c.can_reach.ensures
