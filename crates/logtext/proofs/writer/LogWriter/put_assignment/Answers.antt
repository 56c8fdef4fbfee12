use Rattle.logtext.proofs.Spaced.{words_on, words_stop}
use Rattle.logtext.proofs.writer.LogWriter.put_assignment.Goals as goal

pub returns-in_err-put_slots : goal.returns-in_err-put_slots
returns-in_err-put_slots g c = rw (← c.as_slice.ensures) (words_stop _ _ c.from_residual.ensures.0 c.in_err-put_slots.ensures)

pub returns-in_err-put_orders : goal.returns-in_err-put_orders
returns-in_err-put_orders g c = rw (← c.as_slice.ensures, ← c.as_slice-2.ensures) (words_on _ _ c.in_ok-put_slots.ensures (words_stop _ _ c.from_residual-in_err-put_orders.ensures.0 c.in_err-put_orders.ensures))

pub returns : goal.returns
returns g c = rw (← c.as_slice.ensures, ← c.as_slice-2.ensures, ← c.as_slice-3.ensures) (words_on _ _ c.in_ok-put_slots.ensures (words_on _ _ c.in_ok-put_orders.ensures c.put_functions.ensures))
