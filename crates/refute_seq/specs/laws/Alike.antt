-- The rows read no more than the bounds, the presence and the orders of the members that they speak of.
use Rattle.std.specs.Prelude.{◌≡◌, ℕ, Bool, true, false, ◌&&◌, List, [], ◌∷◌, Option, Some, None, slice_get}
use Rattle.std.specs.List.{list_all}
use Rattle.std.proofs.Common.{refl, ap, ◌∙◌}
use Rattle.std.proofs.lemmas.Bool.{or_left, or_right}
use Rattle.sched_base.specs.declared.ids.Itv.{Itv}
use Rattle.sched_base.specs.declared.ids.Seq.{Seq}
use Rattle.sched_base.specs.declared.ids.Mat.{Mat}
use Rattle.sched_model.specs.declared.types.Constraint.{Constraint}
use Rattle.sched_model.specs.declared.types.Constraint.TheVariants as constraint
use Rattle.sched_model.specs.Words.{◌implies◌, passes}
use Rattle.sched_model.specs.Data.{Data, same, has, members_of}
use Rattle.region.specs.Cells.{Region, bounds_of, says_absent}
use Rattle.region.specs.Looks.{Seen, lst_in, ect_in, lst_of, ect_of}
use Rattle.region.specs.laws.OneSequence.{same_self}
pub use Rattle.refute_basic.specs.laws.Alike.{SamePresence, SameOrder, SameTwo, precedes_alike, stand_alike}
use Rattle.refute_seq.specs.Standing.{is_away, is_aside, are_next}
use Rattle.refute_seq.specs.Pair.{pair_case, pair_of, pair_row}
use Rattle.refute_seq.specs.Triple.{are_in_circle, triple_row}

away_alike : (r q : Region) (x : Itv) → SamePresence r q x → is_away r x ≡ is_away q x
away_alike r q x h = ap says_absent h

circle_alike : (r q : Region) (p : Seq) (x y z : Itv) → SameTwo r q p x y → SameTwo r q p y z → SameTwo r q p z x → are_in_circle r p x y z ≡ are_in_circle q p x y z
circle_alike r q p x y z f g h = rw (stand_alike r q p x y f, stand_alike r q p y z g, stand_alike r q p z x h) refl

-- TRIPLE reads how its three members stand
abbrev pub SameCircle : Region → Region → Seq → Itv → Itv → Itv → Type 0
SameCircle r q p x y z = SameTwo r q p x y × SameTwo r q p y z × SameTwo r q p z x

pub triple_alike : (l k : Seen) (p x y z : ℕ) → SameCircle l.region k.region (record { 0 = p }) (record { 0 = x }) (record { 0 = y }) (record { 0 = z }) → triple_row l p x y z ≡ triple_row k p x y z
triple_alike l k p x y z h = circle_alike l.region k.region (record { 0 = p }) (record { 0 = x }) (record { 0 = y }) (record { 0 = z }) h.0 h.1 h.2

-- whether another member can stand between two
pub record SameBetween (r q : Region) (p : Seq) (x y z : Itv) : Type 0 where
  pub presence : SamePresence r q z
  pub before : SameOrder r q p z x
  pub behind : SameOrder r q p y z

aside_alike : (r q : Region) (p : Seq) (x y z : Itv) → SameBetween r q p x y z → is_aside r p x y z ≡ is_aside q p x y z
aside_alike r q p x y z h = rw (away_alike r q z h.presence, precedes_alike r q p z x h.before, precedes_alike r q p y z h.behind) refl

all_alike : (s t : Itv → Bool) (xs : List Itv) → ((z : Itv) → has xs z ≡ true → s z ≡ t z) → list_all s xs ≡ list_all t xs
all_alike s t [] each = refl
all_alike s t (x ∷ xs) each =
    ap (λ b. b && list_all s xs) (each x (or_left (same x x) (has xs x) (same_self x)))
    ∙ ap (λ b. t x && b) (all_alike s t xs (λ z here. each z (or_right (same z x) (has xs z) here)))

-- PAIR reads the bounds of its two members and their order, and with the direct flag who can stand between
pub record SamePair (m : Data) (r q : Region) (p : Seq) (direct : Bool) (x y : Itv) : Type 0 where
  pub first : bounds_of r x ≡ bounds_of q x
  pub second : bounds_of r y ≡ bounds_of q y
  pub order : SameOrder r q p x y
  pub between : direct ≡ true → (z : Itv) → has (members_of m p) z ≡ true → SameBetween r q p x y z

next_alike : (m : Data) (r q : Region) (p : Seq) (direct : Bool) (x y : Itv) → (direct ≡ true → (z : Itv) → has (members_of m p) z ≡ true → SameBetween r q p x y z)
    → (direct implies are_next m r p x y) ≡ (direct implies are_next m q p x y)
next_alike m r q p true x y h = all_alike (is_aside r p x y) (is_aside q p x y) (members_of m p) (λ z here. aside_alike r q p x y z (h refl z here))
next_alike m r q p false x y h = refl

case_alike : (m : Data) (r q : Region) (k : ℕ) (x y : Itv) (p : Seq) (matrix : Option Mat) (direct : Bool) → SamePair m r q p direct x y → pair_case m r k x y p matrix direct ≡ pair_case m q k x y p matrix direct
case_alike m r q k x y p matrix direct h =
    let two : SameTwo r q p x y = record { first = ap (λ c. c.presence) h.first; second = ap (λ c. c.presence) h.second; order = h.order } in
    let end : ect_of r x ≡ ect_of q x = ap ect_in h.first in
    let start : lst_of r y ≡ lst_of q y = ap lst_in h.second in
    rw (stand_alike r q p x y two, end, start, next_alike m r q p direct x y h.between) refl

-- the same of a constraint, where it is a sequence without overlap
abbrev pub SameRead : Data → Region → Region → Itv → Itv → Option Constraint → Type 0
SameRead m r q x y (Some (constraint.NoOverlap p matrix direct)) = SamePair m r q p direct x y
SameRead m r q x y _ = Unit {0}

pub pair_alike : (m : Data) (l k : Seen) (c x y n : ℕ) → SameRead m l.region k.region (record { 0 = x }) (record { 0 = y }) (slice_get m.constraints c) → pair_row m l c x y n ≡ pair_row m k c x y n
pair_alike m l k c x y n h = at (slice_get m.constraints c) h
  where
    a : Itv
    a = record { 0 = x }

    b : Itv
    b = record { 0 = y }

    at : (o : Option Constraint) → SameRead m l.region k.region a b o → passes (pair_of m l.region n a b) o ≡ passes (pair_of m k.region n a b) o
    at None h = refl
    at (Some (constraint.NoOverlap p matrix direct)) h = case_alike m l.region k.region n a b p matrix direct h
    at (Some other) h = refl
