use Rattle.std.proofs.Common.{◌≡◌, ◌++◌, true, length}
use Rattle.sched_model.specs.Domain.{are_segments}
use Rattle.read_schedule.specs.Schedules.{text}
use Rattle.read_schedule.specs.code.Rows.{state_row, rows, begins}
use Rattle.read_schedule.proofs.states.read_states.Given as goal

abbrev pub invariant-loop-i : goal.invariant-loop-i
invariant-loop-i l = record {
  stays : l.a ≡ l.fn.a;
  fits : begins (are_segments l.model) l.model.states l.segs ≡ true;
  many : length l.segs ≡ l.i;
  same : l.fn.lines ≡ text (rows state_row 0 l.model.states l.segs) ++ l.lines;
}
