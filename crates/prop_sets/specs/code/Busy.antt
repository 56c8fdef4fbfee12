-- A witness that refutes where it is asked, without a guess or under one on a member.
use Rattle.std.specs.Prelude.{◌≡◌, ℕ, ◌<◌, ◌≤◌, ℤ, Bool, true, false, List, [], ◌∷◌, map, take, Option}
use Rattle.sched_base.specs.declared.ids.Itv.{Itv}
use Rattle.sched_model.specs.Data.{Data}
use Rattle.region.specs.declared.types.Guess.{Guess}
use Rattle.region.specs.Cells.{Region}
use Rattle.region.specs.Guesses.{topic}
use Rattle.region.specs.Looks.{seen_at}
use Rattle.findings.specs.declared.likely.Likely.{Likely}
use Rattle.findings.specs.declared.likely.Likely.TheVariants.{StartsLater, EndsSooner}
use Rattle.findings.specs.Ends.{is_asked}
use Rattle.findings.specs.code.Reads.{is_among}
use Rattle.task_sets.specs.Times.{has, edge_row, overload_row}
use Rattle.task_sets.specs.laws.Ects.{up_from, keep}
use Rattle.refute_seq.specs.declared.witness.SeqWitness.{SeqWitness}
use Rattle.refute_seq.specs.OnSequence.{refutes}
use Rattle.refute_seq.specs.Listed.{lists}
use Rattle.theta_passes.specs.declared.rows.Row.{Row}
use Rattle.theta_passes.specs.code.Rows.{is_candidate, times_at, with_candidate}
use Rattle.theta_passes.specs.code.Witnesses.{IsLateSet}
use Rattle.prop_sets.specs.code.Rows.{member_at}

pub record IsBusy (m : Data) (r : Region) (best : Option ℤ) (i : Itv) (w : SeqWitness) : Type 0 where
  pub guess : Option Guess
  pub asked : is_asked (lists m w) r guess ≡ true
  pub on : is_asked (λ g. is_among (i ∷ []) [] (topic g)) r guess ≡ true
  pub refuted : refutes m (seen_at r best guess) w ≡ true

-- the ids of members at some places, in rising order, below a number
abbrev pub name_at : List Itv → ℕ → ℕ
name_at xs k = (member_at xs k).0

abbrev pub ids_of : List Itv → List ℕ → ℕ → List ℕ
ids_of xs set n = keep (has (map (name_at xs) set)) (up_from 0 n)

-- the least of some ids from one on, where it is below n, else n
pub record IsNext (ids : List ℕ) (from n next : ℕ) : Type 0 where
  pub since : from ≤ next
  pub within : next ≤ n
  pub there : next < n → has ids next ≡ true
  pub first : (x : ℕ) → from ≤ x → x < next → has ids x ≡ false

-- the same of the members at the first k of some places
abbrev pub IsNextOf : List Itv → List ℕ → ℕ → ℕ → ℕ → ℕ → Type 0
IsNextOf xs set k from n next = IsNext (map (name_at xs) (take k set)) from n next

-- a candidate, and a set by which it is late
pub record IsLateFound (rows : List Row) (k : ℕ) (set : List ℕ) : Type 0 where
  pub candidate : is_candidate rows k ≡ true
  pub behind : IsLateSet rows k set

-- a set of present members and a candidate that overloads, and has the candidate
pub record IsOverFound (rows : List Row) (k : ℕ) (set : List ℕ) : Type 0 where
  pub candidate : is_candidate rows k ≡ true
  pub row : overload_row (times_at rows) (with_candidate rows k) set ≡ true
  pub there : has set k ≡ true

-- sets by which EDGE is true of a candidate
pub record IsEdgeFound (rows : List Row) (k : ℕ) (s u v : List ℕ) : Type 0 where
  pub candidate : is_candidate rows k ≡ true
  pub row : edge_row (times_at rows) (with_candidate rows k) k s u v ≡ true

-- that the member is pushed later, or sooner
abbrev pub likely_pushed : Bool → Itv → Likely
likely_pushed true i = EndsSooner i
likely_pushed false i = StartsLater i
