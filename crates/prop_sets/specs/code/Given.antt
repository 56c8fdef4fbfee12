-- What is given of a constraint without overlap.
use Rattle.std.specs.Prelude.{◌≡◌, ℕ, ◌<◌, Bool, List, length, Some}
use Rattle.sched_base.specs.declared.ids.Itv.{Itv}
use Rattle.sched_base.specs.declared.ids.Seq.{Seq}
use Rattle.sched_model.specs.Data.{Data, members_of}
use Rattle.sched_model.specs.Valid.{IsValid}
use Rattle.region.specs.Cells.{Region}
use Rattle.region.specs.Looks.{IsRegionOf}
use Rattle.theta_passes.specs.declared.rows.Row.{Row}
use Rattle.prop_sets.specs.code.Rows.{AreRows, chosen_row, side_of}
use Rattle.prop_sets.specs.code.Reordered.{IsReordered}
use Rattle.prop_sets.specs.code.Tasks.{sequence_at}

-- its number, the members of its sequence in any order, and a region of its model
pub record IsOf (m : Data) (c : ℕ) (p : Seq) (r : Region) (xs : List Itv) : Type 0 where
  pub valid : IsValid m
  pub of : IsRegionOf m r
  pub within : c < length m.constraints
  pub sequence : sequence_at m c ≡ Some p
  pub members : IsReordered (members_of m p) xs

-- the rows of its members on a side
pub record IsRowed (m : Data) (c : ℕ) (p : Seq) (r : Region) (xs : List Itv) (back chosen early : Bool) (rows : List Row) : Type 0 where
  pub of : IsOf m c p r xs
  pub are : AreRows (chosen_row chosen (side_of back) early) r xs rows
