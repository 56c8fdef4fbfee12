use Rattle.sched_text.proofs.Printing.{three}
use Rattle.sched_text.proofs.answers.put_schedule.Goals as goal

pub returns : goal.returns
returns g c = three (rw (c.intervals.ensures.list, c.as_slice.ensures) at c.put_slots.ensures) (rw (c.sequences.ensures.list, c.as_slice-2.ensures) at c.put_orders.ensures) (rw (c.states.ensures.list, c.as_slice-3.ensures) at c.put_states.ensures)
