-- What propagators are made of for a model: the demands of each one's state function, their intervals, and what is
-- remembered of them.
use Rattle.std.specs.Prelude.{◌≡◌, ℕ, ◌<◌, ◌≤◌, List, [], length, slice_index_or, Option}
use Rattle.sched_base.specs.declared.ids.Itv.{Itv}
use Rattle.sched_model.specs.Data.{Data}
use Rattle.region.specs.declared.types.Bounds.{Bounds}
use Rattle.refute_state.specs.code.Gathered.{demands_of}
use Rattle.prop_state.specs.code.Tasks.{size_of, intervals_at}
use Rattle.prop_state.specs.code.Known.{AreKnown}

pub record Table : Type 0 where
  pub demands : List (List ℕ)
  pub intervals : List (List Itv)
  pub known : List (Option (List Bounds))

-- one list for each of the first propagators
pub record AreDemands (m : Data) (n : ℕ) (t : List (List ℕ)) : Type 0 where
  pub size : length t ≡ n
  pub each : (k : ℕ) → k < n → slice_index_or t k [] ≡ demands_of m k

pub record AreIntervals (m : Data) (n : ℕ) (t : List (List Itv)) : Type 0 where
  pub size : length t ≡ n
  pub each : (k : ℕ) → k < n → slice_index_or t k [] ≡ intervals_at m (demands_of m k)

-- it is made for the model
pub record IsFor (t : Table) (m : Data) : Type 0 where
  pub demands : AreDemands m (size_of m) t.demands
  pub intervals : AreIntervals m (size_of m) t.intervals
  pub known : AreKnown m (size_of m) t.known

-- there is room for each of the lists
abbrev pub HasRoom : List (List ℕ) → ℕ → Type 0
HasRoom t n = (k : ℕ) → k < length t → length (slice_index_or t k []) ≤ n
