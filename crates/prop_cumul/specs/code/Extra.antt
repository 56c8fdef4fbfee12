-- What a guess adds to the load of parts, and until when that stays.
use Rattle.std.specs.Prelude.{◌≡◌, ℤ, ◌+ℤ◌, ◌-ℤ◌, ◌≤ℤ◌, ◌<ℤ◌, Bool, List, int_le}
use Rattle.sched_model.specs.declared.types.Part.{Part}
use Rattle.region.specs.Cells.{Region}
use Rattle.refute_cumul.specs.declared.profile.Level.{Level}
use Rattle.refute_cumul.specs.code.Loads.{bounded, load_of, load}
use Rattle.refute_cumul.specs.code.Profiles.{level_in}

-- from one region to another
abbrev pub extra : Region → Region → Bool → List Part → ℤ → ℤ
extra r q below is t = load q below is t -ℤ load r below is t

-- by one part that stands so, and then so
abbrev pub gain : Part → Part → ℤ → ℤ
gain i j t = load_of j t -ℤ load_of i t

-- a moment behind a, at most `to`, before which all stays as it is at a
pub record IsUnmoved (a u to n : ℤ) : Type 0 where
  pub later : a <ℤ n
  pub within : n ≤ℤ to
  pub same : (t : ℤ) → a ≤ℤ t → t <ℤ n → int_le u t ≡ int_le u a

pub record IsStillOf (i : Part) (a to n : ℤ) : Type 0 where
  pub later : a <ℤ n
  pub within : n ≤ℤ to
  pub same : (t : ℤ) → a ≤ℤ t → t <ℤ n → load_of i t ≡ load_of i a

pub record AreStill (r q : Region) (below : Bool) (i : Part) (a to n : ℤ) : Type 0 where
  pub later : a <ℤ n
  pub within : n ≤ℤ to
  pub plain : (t : ℤ) → a ≤ℤ t → t <ℤ n → load_of (bounded r below i) t ≡ load_of (bounded r below i) a
  pub under : (t : ℤ) → a ≤ℤ t → t <ℤ n → load_of (bounded q below i) t ≡ load_of (bounded q below i) a

-- where e tells how much is added at each moment
pub record IsStill (e : ℤ → ℤ) (a to n : ℤ) : Type 0 where
  pub later : a <ℤ n
  pub within : n ≤ℤ to
  pub same : (t : ℤ) → a ≤ℤ t → t <ℤ n → e t ≡ e a

-- the level of a profile with what is added is above a limit at a moment of a span, and at none
abbrev pub IsRaisedAbove : List Level → (ℤ → ℤ) → ℤ → ℤ → ℤ → ℤ → Type 0
IsRaisedAbove ps e from to limit t = (from ≤ℤ t) × (t <ℤ to) × (limit <ℤ (level_in ps t +ℤ e t))

abbrev pub StaysLow : List Level → (ℤ → ℤ) → ℤ → ℤ → ℤ → Type 0
StaysLow ps e from to limit = (t : ℤ) → from ≤ℤ t → t <ℤ to → (level_in ps t +ℤ e t) ≤ℤ limit
