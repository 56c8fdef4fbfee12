use Rattle.std.proofs.Common.{append_assoc}
use Rattle.sched_text.proofs.Printing.{both, «as»}
use Rattle.sched_text.proofs.definitions.put_matrix_def.Goals as goal

pub returns : goal.returns
returns g c = «as» (both c.put_text.ensures (both c.put_text-2.ensures (both c.put_rows.ensures c.put_text-3.ensures))) (simp (append_assoc, c.as_slice.ensures, c.as_slice-2.ensures))
