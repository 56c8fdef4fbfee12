-- What is remembered of demands of which nothing was found: what was known of their intervals.
use Rattle.std.specs.Prelude.{◌≡◌, ◌⊎◌, ℕ, ◌<◌, ℤ, List, length, Option, Some, None, slice_get, slice_index_or, ⊤}
use Rattle.sched_model.specs.Data.{Data}
use Rattle.region.specs.declared.types.Bounds.{Bounds}
use Rattle.region.specs.Cells.{Region, bounds_of}
use Rattle.region.specs.Looks.{IsRegionOf}
use Rattle.refute_state.specs.declared.demand.Demand.{Demand}
use Rattle.refute_state.specs.Demands.{demand_at}
use Rattle.refute_state.specs.code.Gathered.{demands_of}
use Rattle.refute_state.specs.laws.Settled.{In}
use Rattle.prop_state.specs.declared.demands.Named.{Named}
use Rattle.prop_state.specs.code.Tasks.{quiet}
use Rattle.prop_state.specs.code.Walks.{AreNamed}

-- demands with these intervals, in their order, are quiet
pub record IsKnown (m : Data) (k : ℕ) (bs : List Bounds) : Type 0 where
  pub region : Region
  pub best : Option ℤ
  pub of : IsRegionOf m region
  pub bounds : (i c : ℕ) (d : Demand) → i < length (demands_of m k) → demand_at m (slice_index_or (demands_of m k) i c) ≡ Some d → slice_get bs i ≡ Some (bounds_of region d.x)
  pub still : quiet m k region best

abbrev pub IfKnown : Data → ℕ → Option (List Bounds) → Type 0
IfKnown m k None = ⊤
IfKnown m k (Some bs) = IsKnown m k bs

pub record AreKnown (m : Data) (n : ℕ) (known : List (Option (List Bounds))) : Type 0 where
  pub size : length known ≡ n
  pub each : (k : ℕ) → k < n → IfKnown m k (slice_index_or known k None)

-- nothing is remembered of so many
pub record AreUnknown (n : ℕ) (known : List (Option (List Bounds))) : Type 0 where
  pub size : length known ≡ n
  pub each : (k : ℕ) → slice_index_or known k None ≡ None

-- what is remembered at a place
abbrev pub remembered : Option (List Bounds) → ℕ → Option Bounds
remembered None i = None
remembered (Some bs) i = slice_get bs i

-- the bounds of the first noted ones
pub record Remembers (r : Region) (n : ℕ) (ns : List Named) (bs : List Bounds) : Type 0 where
  pub size : length bs ≡ n
  pub each : (i : ℕ) → i < n → (e : Named) → slice_get bs i ≡ Some (bounds_of r (slice_index_or ns i e).demand.x)

-- of the first n constraints each is among the fresh ones, or its interval is as it is remembered
pub record AreFresh (m : Data) (r : Region) (k : ℕ) (cs : List ℕ) (ns : List Named) (known : Option (List Bounds)) (n : ℕ) (fs : List ℕ) (os : List Named) : Type 0 where
  pub size : length fs ≡ length os
  pub named : AreNamed m r k fs os
  pub all : (i : ℕ) → i < n → (c : ℕ) (e : Named) → In fs (slice_index_or cs i c) ⊎ (remembered known i ≡ Some (bounds_of r (slice_index_or ns i e).demand.x))
