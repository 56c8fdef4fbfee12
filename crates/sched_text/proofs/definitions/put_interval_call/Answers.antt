use Rattle.sched_text.proofs.Defined.{interval_call}
use Rattle.sched_text.proofs.Printing.{both, «as»}
use Rattle.sched_text.proofs.definitions.put_interval_call.Goals as goal

pub returns : goal.returns
returns g c =
    «as» (both c.put_text.ensures (both (rw c.first_word.ensures at c.put_text-2.ensures) (both c.put_ranges.ensures c.put_text-3.ensures)))
    (interval_call c.args.d.now.optional _ _)
