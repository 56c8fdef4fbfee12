use Rattle.std.proofs.Common.{◌≡◌, drop, fold, neg_ℤ}
use Rattle.sched_model.specs.Data.{horizon}
use Rattle.svg_page.specs.Axis.{later}
use Rattle.svg_page.proofs.axis.last_end.Given as goal

abbrev pub invariant-loop-slot : goal.invariant-loop-slot
invariant-loop-slot l = fold later l.t (drop l.slot-index l.slots) ≡ fold later (neg_ℤ horizon) l.slots
