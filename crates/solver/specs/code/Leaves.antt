-- The assignment that a settled region leaves.
use Rattle.std.specs.Prelude.{IsTrue}
use Rattle.sched_model.specs.declared.types.Assignment.{Assignment}
use Rattle.sched_model.specs.Words.{passes_if_any}
use Rattle.sched_model.specs.Data.{Data}
use Rattle.sched_model.specs.Solution.{is_solution, is_better}
use Rattle.region.specs.Cells.{Region, settled_slots, allows}
use Rattle.region.specs.Looks.{Seen}
use Rattle.refute_seq.specs.code.Order.{settled_orders}
use Rattle.refute_state.specs.code.Canonical.{settled_segments}

-- the assignment of a `Sol` line: the settled slots and orders, and the canonical segments of the state functions
abbrev pub settled_assignment : Data → Region → Assignment
settled_assignment m r = record { slots = settled_slots r; orders = settled_orders r; segs = settled_segments m r }

-- it is a solution that the look allows, and better than the best value, where there are an objective and a best value
pub record Solves (m : Data) (l : Seen) : Type 0 where
  pub solution : IsTrue (is_solution m (settled_assignment m l.region))
  pub allowed : IsTrue (allows l.region (settled_assignment m l.region))
  pub better : IsTrue (passes_if_any (λ o. is_better m l.best (settled_assignment m l.region)) m.objective)
