use Rattle.logtext.proofs.Assignments.{no_slots, no_orders, no_functions, no_end}
use Rattle.logtext.proofs.solution.read_assignment.Goals as goal

pub returns-in-Err : goal.returns-in-Err
returns-in-Err c = no_slots c.args.words.now c.read_slots.new.words c.in-Err.fault c.in-Err.ensures

pub returns-in-Err-read_orders : goal.returns-in-Err-read_orders
returns-in-Err-read_orders c = no_orders c.in-Ok.slots c.args.words.now c.read_slots.new.words c.read_orders.new.words c.in-Err-read_orders.fault c.in-Ok.ensures c.in-Err-read_orders.ensures

pub returns-in-Err-read_functions : goal.returns-in-Err-read_functions
returns-in-Err-read_functions c =
    no_functions c.in-Ok.slots c.in-Ok-read_orders.orders c.args.words.now c.read_slots.new.words c.read_orders.new.words c.read_functions.new.words c.in-Err-read_functions.fault c.in-Ok.ensures c.in-Ok-read_orders.ensures c.in-Err-read_functions.ensures

pub returns-then-not-is_done : goal.returns-then-not-is_done
returns-then-not-is_done c =
    no_end c.in-Ok.slots c.in-Ok-read_orders.orders c.in-Ok-read_functions.segs c.args.words.now c.read_slots.new.words c.read_orders.new.words c.read_functions.new.words c.in-Ok.ensures c.in-Ok-read_orders.ensures c.in-Ok-read_functions.ensures c.if-not-is_done.ensures
