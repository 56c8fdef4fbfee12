-- What is asked of a bound on one of its sides.
use Rattle.std.specs.Prelude.{◌≡◌, ℕ, ◌≤◌, ℤ, Bool, true, false, List, Option, length}
use Rattle.std.specs.List.{filter}
use Rattle.sched_base.specs.declared.ids.Itv.{Itv}
use Rattle.sched_model.specs.declared.types.Part.{Part}
use Rattle.sched_model.specs.Data.{Data, has, parts_of}
use Rattle.region.specs.declared.types.Guess.{Guess}
use Rattle.region.specs.Cells.{Region}
use Rattle.region.specs.Guesses.{admits, topic, with_guess}
use Rattle.region.specs.Looks.{IsRegionOf, seen_at}
use Rattle.findings.specs.Ends.{is_open_end, is_asked}
use Rattle.findings.specs.code.Search.{is_on}
use Rattle.refute_cumul.specs.declared.bound.Bound.{Bound}
use Rattle.refute_cumul.specs.declared.witness.CumulWitness.{CumulWitness}
use Rattle.refute_cumul.specs.declared.witness.CumulWitness.TheVariants.{Point}
use Rattle.refute_cumul.specs.Witness.{constraint_of}
use Rattle.refute_cumul.specs.laws.Loads.{side}
use Rattle.refute_cumul.specs.OnCumul.{refutes}
use Rattle.refute_cumul.specs.Listed.{lists}
use Rattle.refute_cumul.specs.code.Profiles.{Profile, IsProfileOf}
use Rattle.refute_cumul.specs.code.Sides.{is_high, IsBoundOf}
use Rattle.prop_cumul.specs.code.Tables.{is_of}

-- a bound of a constraint, and the profile of its function on a side of the region
pub record IsReady (m : Data) (r : Region) (c : ℕ) (b : Bound) (below : Bool) (p : Profile) : Type 0 where
  pub of : IsRegionOf m r
  pub bound : IsBoundOf m c b
  pub profile : IsProfileOf r below (parts_of m b.f) p

-- the bound is passed at no moment
abbrev pub NeverHigh : Data → Region → Bound → Bool → Type 0
NeverHigh m r b below = (t : ℤ) → is_high m r b below t ≡ false

-- nor under a guess, nor under one at the end of a cell of an interval
abbrev pub IsQuietUnder : Data → Region → Bound → Bool → Guess → Type 0
IsQuietUnder m r b below g = admits r g ≡ true → NeverHigh m (with_guess g r) b below

abbrev pub IsQuietOn : Data → Region → Bound → Bool → Itv → Type 0
IsQuietOn m r b below x = (g : Guess) → is_on x (topic g) ≡ true → is_open_end r g ≡ true → NeverHigh m (with_guess g r) b below

abbrev pub AreQuietOn : Data → Region → Bound → Bool → List Itv → Type 0
AreQuietOn m r b below xs = (x : Itv) → has xs x ≡ true → IsQuietOn m r b below x

-- on one of its sides a bound is passed neither in the region nor under one of these guesses
pub record IsSideQuiet (m : Data) (r : Region) (b : Bound) (below : Bool) (xs : List Itv) : Type 0 where
  pub plain : NeverHigh m r b below
  pub under : AreQuietOn m r b below xs

-- a witness of a constraint refutes as it is asked
pub record IsBusy (m : Data) (r : Region) (best : Option ℤ) (c : ℕ) : Type 0 where
  pub witness : CumulWitness
  pub guess : Option Guess
  pub names : constraint_of witness ≡ c
  pub asked : is_asked (lists m witness) r guess ≡ true
  pub refutes : refutes m (seen_at r best guess) witness ≡ true

-- a witness at a moment, tested by the parts of an interval
pub record IsTested (m : Data) (r : Region) (c : ℕ) (b : Bound) (below : Bool) (p : Profile) (x : Itv) (is : List Part) (t : ℤ) (w : CumulWitness) : Type 0 where
  pub ready : IsReady m r c b below p
  pub parts : is ≡ filter (is_of x) (parts_of m b.f)
  pub few : length is ≤ 100000
  pub witness : w ≡ Point c t (side below)
