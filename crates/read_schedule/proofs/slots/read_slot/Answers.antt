use Rattle.read_schedule.proofs.spelling.Numbers.{absent_and_more}
use Rattle.read_schedule.proofs.slots.read_slot.Goals as goal

pub returns-then-take : goal.returns-then-take
returns-then-take c = absent_and_more c.args.words.now c.take.new.self c.if-take.ensures c.if-is_done.ensures
