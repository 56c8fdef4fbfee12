-- What holds of each demand of a state function.
use Rattle.std.specs.Prelude.{◌≡◌, ℕ, ◌<◌, ◌≤◌, ℤ, true, List, length, slice_index_or, Option, Some, nat_eq}
use Rattle.sched_model.specs.Data.{Data}
use Rattle.region.specs.Cells.{Region}
use Rattle.refute_state.specs.declared.witness.StateWitness.TheVariants.{State, State3}
use Rattle.refute_state.specs.Demands.{demand_at}
use Rattle.refute_state.specs.code.Gathered.{demands_at}
use Rattle.refute_state.specs.laws.Settled.{In}
use Rattle.prop_state.specs.declared.demands.Named.{Named}
use Rattle.prop_state.specs.code.Tasks.{IsSilent}
use Rattle.findings.specs.code.Numbers.{ends_in}

abbrev pub EachOf : (ℕ → Type 0) → List ℕ → Type 0
EachOf P cs = (c : ℕ) → In cs c → P c

abbrev pub SilentTwo : Data → Region → Option ℤ → ℕ → ℕ → ℕ → Type 0
SilentTwo m r best k c1 c2 = demands_at m k c1 ≡ true → demands_at m k c2 ≡ true → IsSilent m r best (State c1 c2)

abbrev pub SilentThree : Data → Region → Option ℤ → ℕ → ℕ → ℕ → ℕ → Type 0
SilentThree m r best k c1 c2 c3 = demands_at m k c1 ≡ true → demands_at m k c2 ≡ true → demands_at m k c3 ≡ true → IsSilent m r best (State3 c1 c2 c3)

-- of each of a list and each of another, and of each third between them that a list has
abbrev pub EachTwo : Data → Region → Option ℤ → ℕ → List ℕ → List ℕ → Type 0
EachTwo m r best k cs ds = EachOf (λ c1. EachOf (SilentTwo m r best k c1) ds) cs

abbrev pub SilentAround : Data → Region → Option ℤ → ℕ → ℕ → List ℕ → ℕ → Type 0
SilentAround m r best k c1 cs c3 = EachOf (λ c2. SilentThree m r best k c1 c2 c3) cs

abbrev pub EachThree : Data → Region → Option ℤ → ℕ → List ℕ → List ℕ → List ℕ → Type 0
EachThree m r best k cs xs ds = EachOf (λ c1. EachOf (SilentAround m r best k c1 xs) ds) cs

-- a constraint with its demand, which is of state function k, and the numbers of its interval
pub record IsNamed (m : Data) (r : Region) (k c : ℕ) (n : Named) : Type 0 where
  pub constraint : n.c ≡ c
  pub is : demand_at m n.c ≡ Some n.demand
  pub of : nat_eq n.demand.g.0 k ≡ true
  pub ends : n.ends ≡ ends_in r n.demand.x

abbrev pub IsOf : Data → Region → ℕ → Named → Type 0
IsOf m r k n = IsNamed m r k n.c n

-- those of some constraints, at their places
abbrev pub AreNamed : Data → Region → ℕ → List ℕ → List Named → Type 0
AreNamed m r k cs ns = (i : ℕ) → i < length cs → (c : ℕ) (n : Named) → IsNamed m r k (slice_index_or cs i c) (slice_index_or ns i n)

pub record AreAll (m : Data) (r : Region) (k : ℕ) (cs : List ℕ) (ns : List Named) : Type 0 where
  pub room : length cs ≤ length ns
  pub named : AreNamed m r k cs ns

-- some demands with all of them, in each place
pub record AreAsked (m : Data) (r : Region) (best : Option ℤ) (k : ℕ) (cs fs : List ℕ) : Type 0 where
  pub first : EachTwo m r best k fs cs
  pub second : EachTwo m r best k cs fs
  pub first_of_three : EachThree m r best k fs cs cs
  pub between : EachThree m r best k cs fs cs
  pub last : EachThree m r best k cs cs fs
