-- Where TRIPLE is asked: three members, the first told to stand before the second, who is present, and the second before the
-- third.
use Rattle.std.specs.Prelude.{◌≡◌, ℕ, ◌<◌, ◌≤◌, true, List, ℤ, Option}
use Rattle.sched_base.specs.declared.ids.Itv.{Itv}
use Rattle.sched_base.specs.declared.ids.Seq.{Seq}
use Rattle.sched_model.specs.Data.{Data, has}
use Rattle.region.specs.Cells.{Region, is_there}
use Rattle.refute_seq.specs.declared.witness.SeqWitness.TheVariants.{Triple}
use Rattle.refute_seq.specs.Standing.{precedes}
use Rattle.prop_unary.specs.code.Tasks.{IsSilent}
use Rattle.prop_unary.specs.code.Rows.{member_at}

pub record IsMet (r : Region) (p : Seq) (x y z : Itv) : Type 0 where
  pub middle : is_there r y ≡ true
  pub first : precedes r p x y ≡ true
  pub second : precedes r p y z ≡ true

-- each of a list
abbrev pub EachOf : (Itv → Type 0) → List Itv → Type 0
EachOf P xs = (x : Itv) → has xs x ≡ true → P x

-- each that stands at a place from one on up to another
abbrev pub EachBetween : (Itv → Type 0) → List Itv → ℕ → ℕ → Type 0
EachBetween P xs from to = (k : ℕ) → from ≤ k → k < to → P (member_at xs k)

abbrev pub SilentBehind : Data → Region → Option ℤ → Seq → Itv → Itv → Itv → Type 0
SilentBehind m r best p x y z = precedes r p y z ≡ true → IsSilent m r best (Triple p.0 x.0 y.0 z.0)

abbrev pub SilentAround : Data → Region → Option ℤ → Seq → List Itv → Itv → Itv → Type 0
SilentAround m r best p ms y x = precedes r p x y ≡ true → EachOf (SilentBehind m r best p x y) ms

abbrev pub SilentAt : Data → Region → Option ℤ → Seq → List Itv → Itv → Type 0
SilentAt m r best p ms y = is_there r y ≡ true → EachOf (SilentAround m r best p ms y) ms
