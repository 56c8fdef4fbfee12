use Rattle.sched_text.proofs.Printing.{four}
use Rattle.sched_text.proofs.constraints.put_distance.Goals as goal

pub returns : goal.returns
returns g c = four c.put_text.ensures c.put_matrix.ensures c.put_text-2.ensures (rw c.flag.ensures at c.put_text-3.ensures)
