-- The assignment that was put together is the settled one.
use Rattle.std.proofs.Common.{◌≡◌, List, refl}
use Rattle.sched_base.specs.declared.ids.Itv.{Itv}
use Rattle.sched_model.specs.declared.types.Assignment.{Assignment}
use Rattle.sched_model.specs.declared.types.Segment.{Segment}
use Rattle.sched_model.specs.declared.types.Slot.{Slot}
use Rattle.sched_model.specs.Data.{Data}
use Rattle.region.specs.Cells.{Region, settled_slots}
use Rattle.refute_seq.specs.code.Order.{settled_orders}
use Rattle.refute_state.specs.code.Canonical.{settled_segments}
use Rattle.solver.specs.code.Leaves.{settled_assignment}

pub assigned : (m : Data) (r : Region) (ss : List Slot) (os : List (List Itv)) (gs : List (List Segment)) → ss ≡ settled_slots r → os ≡ settled_orders r → gs ≡ settled_segments m r
    → (let a : Assignment = record { slots = ss; orders = os; segs = gs } in a) ≡ settled_assignment m r
assigned m r ss os gs first second third = rw (first, second, third) refl
