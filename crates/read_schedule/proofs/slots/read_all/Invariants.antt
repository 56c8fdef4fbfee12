use Rattle.std.proofs.Common.{◌≡◌, ◌++◌, true, length}
use Rattle.sched_model.specs.Domain.{fits_def}
use Rattle.read_schedule.specs.Schedules.{text}
use Rattle.read_schedule.specs.code.Rows.{slot_row, rows, begins}
use Rattle.read_schedule.proofs.slots.read_all.Given as goal

abbrev pub invariant-loop-d : goal.invariant-loop-d
invariant-loop-d l = record {
  fits : begins fits_def l.defs l.slots ≡ true;
  many : length l.slots ≡ l.d-index;
  same : l.fn.lines ≡ text (rows slot_row 0 l.defs l.slots) ++ l.lines;
}
