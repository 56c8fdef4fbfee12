use Rattle.std.proofs.Common.{append_assoc}
use Rattle.sched_text.proofs.Printing.{both, «as»}
use Rattle.sched_text.proofs.definitions.put_given_types.Goals as goal

pub returns : goal.returns
returns g c = «as» (both c.put_text.ensures (both c.put_types.ensures c.put_text-2.ensures)) (simp append_assoc)
