use Rattle.std.proofs.Common.{◌≡◌, drop, fold}
use Rattle.sched_model.specs.Data.{horizon}
use Rattle.svg_page.specs.Axis.{sooner}
use Rattle.svg_page.proofs.axis.first_start.Given as goal

abbrev pub invariant-loop-slot : goal.invariant-loop-slot
invariant-loop-slot l = fold sooner l.t (drop l.slot-index l.slots) ≡ fold sooner horizon l.slots
