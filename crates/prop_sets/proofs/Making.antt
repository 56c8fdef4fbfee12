-- What is asked of a constraint whose sequence is known.
use Rattle.std.specs.Prelude.{◌≡◌, ℕ, ◌<◌, Bool, List, length, Some}
use Rattle.std.proofs.Common.{subst}
use Rattle.sched_base.specs.declared.ids.Itv.{Itv}
use Rattle.sched_base.specs.declared.ids.Seq.{Seq}
use Rattle.sched_model.specs.Data.{Data, members_of}
use Rattle.sched_model.specs.Valid.{IsValid}
use Rattle.region.specs.Cells.{Region}
use Rattle.region.specs.Looks.{IsRegionOf}
use Rattle.prop_sets.specs.code.Given.{IsOf}
use Rattle.prop_sets.specs.code.Reordered.{IsReordered}
use Rattle.prop_sets.specs.code.Tasks.{sequence_at}
use Rattle.prop_sets.specs.code.Sides.{IsSideQuiet}
use Rattle.prop_sets.specs.code.Known.{IsStill}

-- a constraint whose sequence is known
pub is_of : (m : Data) (c : ℕ) (p : Seq) (r : Region) (ms xs : List Itv) → IsValid m → IsRegionOf m r → c < length m.constraints → sequence_at m c ≡ Some p → ms ≡ members_of m p → IsReordered ms xs → IsOf m c p r xs
is_of m c p r ms xs valid of within sequence members order = record { valid = valid; of = of; within = within; sequence = sequence; members = subst (λ zs. IsReordered zs xs) members order }

-- and a round finds nothing of its members on both sides
pub still_of : (later : Bool) (m : Data) (p : Seq) (r : Region) (ms xs ys : List Itv) → ms ≡ members_of m p → IsReordered ms xs → IsReordered ms ys → IsSideQuiet later 0 r xs → IsSideQuiet later 1 r ys → IsStill later r (members_of m p)
still_of later m p r ms xs ys members one_order other_order first second = record {
  xs = xs;
  ys = ys;
  first_order = subst (λ zs. IsReordered zs xs) members one_order;
  second_order = subst (λ zs. IsReordered zs ys) members other_order;
  first = first;
  second = second;
}
