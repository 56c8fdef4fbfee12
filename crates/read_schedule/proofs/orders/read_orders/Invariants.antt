use Rattle.std.proofs.Common.{◌≡◌, ◌++◌, true, length}
use Rattle.sched_model.specs.Domain.{lists_present}
use Rattle.read_schedule.specs.Schedules.{text}
use Rattle.read_schedule.specs.code.Rows.{order_row, rows, begins}
use Rattle.read_schedule.proofs.orders.read_orders.Given as goal

abbrev pub invariant-loop-i : goal.invariant-loop-i
invariant-loop-i l = record {
  stays : l.a ≡ l.fn.a;
  fits : begins (lists_present l.fn.a) l.model.sequences l.orders ≡ true;
  many : length l.orders ≡ l.i;
  same : l.fn.lines ≡ text (rows (order_row l.model) 0 l.model.sequences l.orders) ++ l.lines;
}
