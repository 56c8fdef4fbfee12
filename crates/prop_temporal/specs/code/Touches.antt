-- What naming its intervals adds to the constraints that name each one.
use Rattle.std.specs.Prelude.{◌≡◌, ℕ, ◌<◌, true, List, length, slice_get}
use Rattle.sched_base.specs.declared.ids.Itv.{Itv}
use Rattle.sched_model.specs.Data.{Data, has}
use Rattle.prop_temporal.specs.code.Members.{touched_by}
use Rattle.prop_temporal.specs.code.Heights.{is_touched}

pub record Touches (old new : List (List ℕ)) (ends : List Itv) (c : ℕ) : Type 0 where
  pub size : length new ≡ length old
  pub grows : (x d : ℕ) → is_touched old x d ≡ true → is_touched new x d ≡ true
  pub has : (x : Itv) → x.0 < length old → has ends x ≡ true → is_touched new x.0 c ≡ true

-- the first n constraints have been looked at
pub record AreTouchedBy (m : Data) (n : ℕ) (ts : List (List ℕ)) : Type 0 where
  pub size : length ts ≡ length m.intervals
  pub each : (x : Itv) (c : ℕ) → c < n → x.0 < length m.intervals → has (touched_by m (slice_get m.constraints c)) x ≡ true → is_touched ts x.0 c ≡ true
