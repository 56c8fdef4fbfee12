use Rattle.std.proofs.Common.{◌<◌, ℕ, get_or}
use Rattle.sched_base.specs.declared.ids.Itv.{Itv}
use Rattle.prop_cumul.specs.code.Asking.{IsQuietOn}
use Rattle.prop_cumul.proofs.asking.ask_intervals.Given as goal

abbrev pub invariant-loop-i : goal.invariant-loop-i
invariant-loop-i l = (j : ℕ) (d : Itv) → j < l.i → IsQuietOn l.side.model.now l.side.region.now.region l.side.bound l.side.below (get_or l.task.intervals j d)
