-- What a look knows of an interval that is listed.
use Rattle.std.specs.Prelude.{◌≡◌, None, slice_get}
use Rattle.sched_base.specs.declared.ids.Itv.{Itv}
use Rattle.sched_model.specs.Data.{Data}
use Rattle.region.specs.declared.types.Bounds.{Bounds}
use Rattle.region.specs.Cells.{Region, bounds_of}
use Rattle.region.specs.Looks.{HasMoments}

pub record KnownAs (m : Data) (r : Region) (x : Itv) (c : Bounds) : Type 0 where
  pub bounds : c ≡ bounds_of r x
  pub moments : HasMoments c
  pub listed : slice_get m.intervals x.0 ≡ None → ⊥
