-- The profile of a cumulative function: the moments at which its load changes, and the load from each of them on.
use Rattle.std.specs.Prelude.{◌≡◌, ℕ, zero, suc, ◌<◌, ◌≤◌, ℤ, pos, ◌≤ℤ◌, ◌<ℤ◌, Bool, if◌then◌else◌, List, [], ◌∷◌, length, int_le, slice_index_or}
use Rattle.std.specs.List.{flat_map}
use Rattle.sched_model.specs.declared.types.Shape.TheVariants.{Pulse, Step}
use Rattle.sched_model.specs.declared.types.Shape.{Shape}
use Rattle.sched_model.specs.declared.types.Part.{Part}
use Rattle.region.specs.Cells.{Region}
use Rattle.sched_model.specs.declared.changes.Change.{Change}
use Rattle.sched_model.specs.Changes.{change, pulse_changes}
use Rattle.refute_cumul.specs.declared.profile.Level.{Level}
use Rattle.refute_cumul.specs.declared.reach.Reach.{Reach}
use Rattle.refute_cumul.specs.code.Loads.{bounded, load}

-- those of a part with fixed moments, and of all parts
abbrev pub shape_changes : Bool → Shape → List Change
shape_changes minus (Pulse u v h) = pulse_changes minus u v h
shape_changes minus (Step u h) = change u minus h ∷ []
shape_changes minus _ = []

abbrev pub part_changes : Part → List Change
part_changes i = shape_changes i.minus i.shape

abbrev pub load_changes : Region → Bool → List Part → List Change
load_changes r below is = flat_map (λ i. part_changes (bounded r below i)) is

-- the level at a moment is that of the last place until then, and z before the first
abbrev pub level_from : ℤ → List Level → ℤ → ℤ
level_from z [] t = z
level_from z (p ∷ ps) t = if int_le p.t t then level_from p.level ps t else z

abbrev pub level_in : List Level → ℤ → ℤ
level_in ps t = level_from (pos 0) ps t

-- each place is later than all before it
abbrev pub IsRising : List Level → Type 0
IsRising ps = (i k : ℕ) (d : Level) → i < k → k < length ps → (slice_index_or ps i d).t <ℤ (slice_index_or ps k d).t

-- a profile, and the parts that it has room for
pub record Profile : Type 0 where
  pub levels : List Level
  pub room : ℕ

-- it is that of some parts in a region
abbrev pub IsProfileOf : Region → Bool → List Part → Profile → Type 0
IsProfileOf r below is p = (t : ℤ) → level_in p.levels t ≡ load r below is t

-- no level from a place until before another is above a number
pub record IsBelow (ps : List Level) (i n : ℕ) (top : ℤ) : Type 0 where
  pub each : (k : ℕ) (d : Level) → i ≤ k → k < n → (slice_index_or ps k d).level ≤ℤ top

-- of each place: a later one, and a number that no level until before that is above
pub record Reaches (ps : List Level) (i : ℕ) (q : Reach) : Type 0 where
  pub later : i < q.next
  pub within : q.next ≤ length ps
  pub below : IsBelow ps i q.next q.top

pub record AreReaches (ps : List Level) (qs : List Reach) : Type 0 where
  pub size : length qs ≡ length ps
  pub each : (i : ℕ) (d : Reach) → i < length ps → Reaches ps i (slice_index_or qs i d)

-- how many places there are until t
pub record IsPlaceOf (ps : List Level) (t : ℤ) (k : ℕ) : Type 0 where
  pub within : k ≤ length ps
  pub before : (i : ℕ) (d : Level) → i < k → (slice_index_or ps i d).t ≤ℤ t
  pub behind : (i : ℕ) (d : Level) → k ≤ i → i < length ps → t <ℤ (slice_index_or ps i d).t

-- the level in front of a place
abbrev pub level_before : List Level → ℕ → ℤ
level_before ps zero = pos 0
level_before ps (suc k) = (slice_index_or ps k (record { t = pos 0; level = pos 0 })).level

-- the place, one from k on, is before a moment, and its level above a limit
pub record IsAbove (ps : List Level) (k : ℕ) (to limit : ℤ) (i : ℕ) : Type 0 where
  pub from : k ≤ i
  pub within : i < length ps
  pub before : (d : Level) → (slice_index_or ps i d).t <ℤ to
  pub above : (d : Level) → limit <ℤ (slice_index_or ps i d).level

-- and there is none
pub record IsNeverAbove (ps : List Level) (k : ℕ) (to limit : ℤ) : Type 0 where
  pub each : (i : ℕ) (d : Level) → k ≤ i → i < length ps → (slice_index_or ps i d).t <ℤ to → (slice_index_or ps i d).level ≤ℤ limit

-- the moment lies in the span, and the level there is above a limit; and there is none
abbrev pub IsFirstAbove : List Level → ℤ → ℤ → ℤ → ℤ → Type 0
IsFirstAbove ps from to limit t = (from ≤ℤ t) × (t <ℤ to) × (limit <ℤ level_in ps t)

abbrev pub StaysBelow : List Level → ℤ → ℤ → ℤ → Type 0
StaysBelow ps from to limit = (t : ℤ) → from ≤ℤ t → t <ℤ to → level_in ps t ≤ℤ limit
