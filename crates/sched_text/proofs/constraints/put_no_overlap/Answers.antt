use Rattle.std.proofs.Common.{codes}
use Rattle.sched_text.proofs.Calls.{opened, first, closed}
use Rattle.sched_text.proofs.Printing.{both}
use Rattle.sched_text.proofs.constraints.put_no_overlap.Goals as goal

pub returns : goal.returns
returns g c = closed (first (opened (codes "noOverlap") c.put_text.ensures) (both c.put_over.ensures c.put_distances.ensures)) c.put_text-2.ensures
