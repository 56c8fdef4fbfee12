-- The names of arcs that a propagator tries, and the arcs that a look shows of them.
use Rattle.std.specs.Prelude.{◌≡◌, ◌⊎◌, ℕ, ◌*◌, ◌<◌, Bool, true, List, length, get_or, Some, if◌then◌else◌}
use Rattle.sched_base.specs.declared.ids.Itv.{Itv}
use Rattle.sched_model.specs.Data.{Data, has}
use Rattle.region.specs.Cells.{Region}
use Rattle.cycles.specs.code.Walks.{arc_at}
use Rattle.cycles.specs.code.Search.{IsOn}
use Rattle.refute_basic.specs.declared.edge.Arc.{Arc as Edge}
use Rattle.refute_basic.specs.declared.arc_name.ArcName.{ArcName}
use Rattle.refute_basic.specs.Witness.{is_name}
use Rattle.refute_basic.specs.Cycle.{itv, edge_of}

-- arcs with their names
pub record Shown : Type 0 where
  pub names : List ArcName
  pub arcs : List Edge

abbrev pub no_name : ArcName
no_name = record { kind = 0; x = 0; y = 0; z = 0 }

abbrev pub name : ℕ → ℕ → ℕ → ArcName
name kind x y = record { kind = kind; x = x; y = y; z = 0 }

-- of two members of a sequence the one is this, which stands before the other, or behind it
abbrev pub this_of : Bool → ArcName → ℕ
this_of behind i = if behind then i.z else i.y

abbrev pub other_of : Bool → ArcName → ℕ
other_of behind i = if behind then i.y else i.z

abbrev pub member_name : Bool → ℕ → ℕ → ℕ → ArcName
member_name behind u x y = record { kind = 3; x = u; y = if behind then y else x; z = if behind then x else y }

abbrev pub name_at : List ArcName → ℕ → ArcName
name_at names k = get_or names k no_name

-- the arc is one of these
pub record IsAmong (arcs : List Edge) (e : Edge) : Type 0 where
  pub at : ℕ
  pub within : at < length arcs
  pub is : arc_at arcs at ≡ e

-- each is shown under its name, which a log may hold
pub record AreShown (m : Data) (r : Region) (s : Shown) : Type 0 where
  pub size : length s.names ≡ length s.arcs
  pub are : (k : ℕ) → k < length s.arcs → edge_of m r (name_at s.names k) ≡ Some (arc_at s.arcs k)
  pub valid : (k : ℕ) → k < length s.arcs → is_name (name_at s.names k) ≡ true
  pub on : (k : ℕ) → k < length s.arcs → IsOn (2 * length r.bounds) (arc_at s.arcs k)

-- an arc of a constraint; the others are of the sizes of an interval
abbrev pub OfConstraint : ArcName → Type 0
OfConstraint i = (i.kind ≡ 0) ⊎ (i.kind ≡ 3)

-- the names of the first u constraints, and of the first x intervals
abbrev pub IsTried : ℕ → ℕ → ArcName → Type 0
IsTried u x i = (OfConstraint i × (i.x < u)) ⊎ ((OfConstraint i → ⊥) × (i.x < x))

-- of these names none is missing
abbrev pub HasTried : Data → Region → ℕ → ℕ → Shown → Type 0
HasTried m r u x s = (i : ArcName) (e : Edge) → IsTried u x i → edge_of m r i ≡ Some e → IsAmong s.arcs e

-- a name was tried
pub record Tries (m : Data) (r : Region) (i : ArcName) (old new : Shown) : Type 0 where
  pub shown : AreShown m r old → AreShown m r new
  pub grows : (e : Edge) → IsAmong old.arcs e → IsAmong new.arcs e
  pub has : (e : Edge) → edge_of m r i ≡ Some e → IsAmong new.arcs e

-- all names of a kind were
pub record TriesAll (m : Data) (r : Region) (kind : ArcName → Type 0) (old new : Shown) : Type 0 where
  pub shown : AreShown m r old → AreShown m r new
  pub grows : (e : Edge) → IsAmong old.arcs e → IsAmong new.arcs e
  pub has : (i : ArcName) (e : Edge) → kind i → edge_of m r i ≡ Some e → IsAmong new.arcs e

abbrev pub IsOfConstraint : ℕ → ArcName → Type 0
IsOfConstraint u i = OfConstraint i × (i.x ≡ u)

abbrev pub IsOfInterval : ℕ → ArcName → Type 0
IsOfInterval x i = (OfConstraint i → ⊥) × (i.x ≡ x)

-- of a constraint the two of a precedence, those of two members, and of these the ones of one member on one side of others
abbrev pub IsOfPrecedence : ℕ → ArcName → Type 0
IsOfPrecedence u i = (i.kind ≡ 0) × (i.x ≡ u)

abbrev pub IsOfOrder : ℕ → ArcName → Type 0
IsOfOrder u i = (i.kind ≡ 3) × (i.x ≡ u)

abbrev pub IsOfOrderFrom : ℕ → List Itv → ArcName → Type 0
IsOfOrderFrom u xs i = (i.kind ≡ 3) × (i.x ≡ u) × (has xs (itv i.y) ≡ true)

abbrev pub IsOfSide : Bool → ℕ → ℕ → ArcName → Type 0
IsOfSide behind u x i = (i.kind ≡ 3) × (i.x ≡ u) × (this_of behind i ≡ x)

abbrev pub IsOfSideOf : Bool → ℕ → ℕ → List Itv → ArcName → Type 0
IsOfSideOf behind u x ys i = (i.kind ≡ 3) × (i.x ≡ u) × (this_of behind i ≡ x) × (has ys (itv (other_of behind i)) ≡ true)

-- of two members, whichever stands first, those of one with these, and those of which one at least is among the first ones
pub record IsOfPairs (u x : ℕ) (ys : List Itv) (i : ArcName) : Type 0 where
  pub kind : i.kind ≡ 3
  pub of : i.x ≡ u
  pub ends : ((i.y ≡ x) × (has ys (itv i.z) ≡ true)) ⊎ ((i.z ≡ x) × (has ys (itv i.y) ≡ true))

pub record IsOfPairsFrom (u : ℕ) (firsts all : List Itv) (i : ArcName) : Type 0 where
  pub kind : i.kind ≡ 3
  pub of : i.x ≡ u
  pub first : has all (itv i.y) ≡ true
  pub second : has all (itv i.z) ≡ true
  pub either : (has firsts (itv i.y) ≡ true) ⊎ (has firsts (itv i.z) ≡ true)

-- of a constraint those of a precedence, and those of one member
abbrev pub OfOne : ℕ → ArcName → Type 0
OfOne x i = (i.kind ≡ 0) ⊎ ((i.kind ≡ 3) × ((i.y ≡ x) ⊎ (i.z ≡ x)))

abbrev pub IsOfMember : ℕ → ℕ → ArcName → Type 0
IsOfMember u x i = OfOne x i × (i.x ≡ u)
