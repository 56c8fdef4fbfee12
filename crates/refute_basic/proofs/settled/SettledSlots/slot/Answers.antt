use Rattle.std.proofs.Common.{rules}
use Rattle.refute_basic.proofs.Slots.{absent_past, settled_slot_at}
use Rattle.refute_basic.proofs.settled.SettledSlots.slot.Goals as goal

pub returns-then-x-len : goal.returns-then-x-len
returns-then-x-len c = absent_past c.args.self.now.look.now.region c.args.x (search rules)

pub returns : goal.returns
returns c = settled_slot_at c.args.self.now.look.now.region c.args.x c.bounds.result c.settled_slot.result c.bounds.ensures.value c.settled_slot.ensures
