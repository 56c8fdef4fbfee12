use Rattle.std.proofs.Common.{codes}
use Rattle.sched_text.proofs.Calls.{opened, first, closed}
use Rattle.sched_text.proofs.Printing.{both}
use Rattle.sched_text.proofs.definitions.put_sequence_call.Goals as goal

pub returns : goal.returns
returns g c = closed (first (opened (codes "sequenceVar") c.put_text.ensures) (both (rw c.as_slice.ensures at c.put_names.ensures) c.put_own_types.ensures)) c.put_text-2.ensures
