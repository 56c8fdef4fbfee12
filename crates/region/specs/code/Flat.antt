-- The cells of a region as numbers: five for each interval, and behind them one for each two members of each sequence.
use Rattle.std.specs.Prelude.{◌≡◌, ℕ, zero, suc, ◌+◌, ◌*◌, ◌<◌, ◌≤◌, ℤ, pos, ◌+ℤ◌, ◌-ℤ◌, Bool, true, not, ◌&&◌, ◌||◌, IsTrue, List, [], ◌∷◌, ◌++◌, map, length, take, drop, slice_index_or, sum_by, nat_eq, nat_le, nat_lt, All, Option, if◌then◌else◌}
use Rattle.std.specs.List.{list_all, flat_map}
use Rattle.std.proofs.Math.ListN.{replicate}
use Rattle.sched_base.specs.declared.ids.Itv.{Itv}
use Rattle.sched_base.specs.declared.ids.Seq.{Seq}
use Rattle.sched_model.specs.declared.types.IntervalDef.{IntervalDef}
use Rattle.sched_model.specs.declared.types.SequenceDef.{SequenceDef}
use Rattle.sched_model.specs.Words.{passes_if_any}
use Rattle.sched_model.specs.Data.{Data, same, has}
use Rattle.sched_model.specs.Valid.{is_moment, pair_count}
use Rattle.trail.specs.code.Trail.{Trail}
use Rattle.region.specs.declared.types.Presence.{Presence}
use Rattle.region.specs.declared.types.Presence.TheVariants as presence
use Rattle.region.specs.declared.types.OrderCell.{OrderCell}
use Rattle.region.specs.declared.types.OrderCell.TheVariants.{Unknown, Forward, Backward}
use Rattle.region.specs.declared.types.SizeRange.{SizeRange}
use Rattle.region.specs.declared.types.Guess.{Guess}
use Rattle.region.specs.declared.types.Claim.{Claim}
use Rattle.region.specs.declared.types.Claim.TheVariants.{Present, Absent, StartLe, StartGe, EndLe, EndGe}
use Rattle.region.specs.declared.types.Topic.{Topic}
use Rattle.region.specs.declared.types.Topic.TheVariants.{One, Two}
use Rattle.region.specs.declared.types.CellName.{CellName}
use Rattle.region.specs.declared.types.CellName.TheVariants as cell
use Rattle.region.specs.declared.types.Bounds.{Bounds}
use Rattle.region.specs.declared.frame.Row.{Row}
use Rattle.region.specs.Orders.{SequenceCells, order_place, place_of}
use Rattle.region.specs.Cells.{Region}
use Rattle.region.specs.Claims.{guessed, as_present}
use Rattle.region.specs.Guesses.{admits}

-- what doesn't change: the ranges of sizes, and the members of each sequence
pub record Form : Type 0 where
  pub sizes : List SizeRange
  pub members : List (List Itv)

-- 0 is absent, 1 present, any other number neither is known
abbrev pub presence_from : ℤ → Presence
presence_from (pos zero) = presence.Absent
presence_from (pos (suc zero)) = presence.Present
presence_from z = presence.Maybe

abbrev pub number_at : List ℤ → ℕ → ℤ
number_at cells i = slice_index_or cells i (pos 0)

-- the first interval of these cells
abbrev pub first_bounds : SizeRange → List ℤ → Bounds
first_bounds size cells = record {
  presence = presence_from (number_at cells 0);
  smin = number_at cells 1;
  smax = number_at cells 2;
  emin = number_at cells 3;
  emax = number_at cells 4;
  pmin = size.least;
  pmax = size.greatest;
}

abbrev pub bounds_from : List SizeRange → List ℤ → List Bounds
bounds_from [] cells = []
bounds_from (size ∷ sizes) cells = first_bounds size cells ∷ bounds_from sizes (drop 5 cells)

-- an order: 1 is forward, 2 backward, any other number neither
abbrev pub order_from : ℤ → OrderCell
order_from (pos (suc zero)) = Forward
order_from (pos (suc (suc zero))) = Backward
order_from z = Unknown

abbrev pub pairs_from : ℕ → List ℤ → List OrderCell
pairs_from n numbers = map order_from (take n numbers)

abbrev pub orders_from : List (List Itv) → List ℤ → List SequenceCells
orders_from [] numbers = []
orders_from (ms ∷ mss) numbers = record { members = ms; cells = pairs_from (pair_count (length ms)) numbers } ∷ orders_from mss (drop (pair_count (length ms)) numbers)

-- how many cells the sequences have, and where those of one begin
abbrev pub pairs_in : List (List Itv) → ℕ
pairs_in mss = sum_by (λ ms. pair_count (length ms)) mss

abbrev pub pairs_before : List (List Itv) → ℕ → ℕ
pairs_before [] p = 0
pairs_before (ms ∷ mss) zero = 0
pairs_before (ms ∷ mss) (suc p) = pair_count (length ms) + pairs_before mss p

abbrev pub region_from : Form → List ℤ → Region
region_from f numbers = record { bounds = bounds_from f.sizes numbers; orders = orders_from f.members (drop (5 * length f.sizes) numbers) }

abbrev pub members_at : Form → Seq → List Itv
members_at f p = slice_index_or f.members p.0 []

-- the number that tells the first of two members to stand before the second
abbrev pub order_number : ℕ → ℕ → ℤ
order_number i j = if nat_lt i j then pos 1 else pos 2

-- the place of a cell
abbrev pub number_place : Form → CellName → ℕ
number_place f (cell.Presence x) = 5 * x.0
number_place f (cell.StartMin x) = 5 * x.0 + 1
number_place f (cell.StartMax x) = 5 * x.0 + 2
number_place f (cell.EndMin x) = 5 * x.0 + 3
number_place f (cell.EndMax x) = 5 * x.0 + 4
number_place f (cell.Order p x y) = 5 * length f.sizes + (pairs_before f.members p.0 + order_place (place_of (members_at f p) x) (place_of (members_at f p) y))

-- an interval as declared
abbrev pub size_range : IntervalDef → SizeRange
size_range d = record { least = d.size_lo; greatest = d.size_hi }

abbrev pub first_numbers : IntervalDef → List ℤ
first_numbers d = (if d.optional then pos 2 else pos 1) ∷ d.start_lo ∷ d.start_hi ∷ d.end_lo ∷ d.end_hi ∷ []

abbrev pub form_of : Data → Form
form_of m = record { sizes = map size_range m.intervals; members = map (λ d. d.members) m.sequences }

abbrev pub root_numbers : Data → List ℤ
root_numbers m = flat_map first_numbers m.intervals ++ replicate (pairs_in (map (λ d. d.members) m.sequences)) (pos 0)

-- what a guess that splits writes into its cell, and what a fact writes
abbrev pub claim_number : Claim → ℤ
claim_number Present = pos 1
claim_number Absent = pos 0
claim_number (StartLe t) = t
claim_number (StartGe t) = t
claim_number (EndLe t) = t
claim_number (EndGe t) = t

abbrev pub denial_number : Claim → ℤ
denial_number Present = pos 0
denial_number Absent = pos 1
denial_number (StartLe t) = t +ℤ pos 1
denial_number (StartGe t) = t -ℤ pos 1
denial_number (EndLe t) = t +ℤ pos 1
denial_number (EndGe t) = t -ℤ pos 1

abbrev pub assumed_number : Form → Topic → ℤ
assumed_number f (One x c) = claim_number c
assumed_number f (Two p x y) = order_number (place_of (members_at f p) x) (place_of (members_at f p) y)

abbrev pub refused_number : Form → Topic → ℤ
refused_number f (One x c) = denial_number c
refused_number f (Two p x y) = order_number (place_of (members_at f p) y) (place_of (members_at f p) x)

-- the topic names an interval, or two members of a sequence
abbrev pub IsNamed : Form → Topic → Type 0
IsNamed f (One x c) = x.0 < length f.sizes
IsNamed f (Two p x y) = (p.0 < length f.members) × (has (members_at f p) x ≡ true) × (has (members_at f p) y ≡ true)

abbrev pub is_range_of_moments : SizeRange → Bool
is_range_of_moments s = is_moment s.least && is_moment s.greatest

-- five numbers for each interval and one for each two members, none beyond the moments
pub record AreCells (f : Form) (cells : List ℤ) : Type 0 where
  pub count : length cells ≡ 5 * length f.sizes + pairs_in f.members
  pub moments : IsTrue (list_all is_moment cells)
  pub ranges : IsTrue (list_all is_range_of_moments f.sizes)

-- the cells behind a look, whose guess is admitted
pub record IsLook (f : Form) (cells : List ℤ) (guess : Option Guess) : Type 0 where
  pub are : AreCells f cells
  pub admitted : IsTrue (passes_if_any (admits (region_from f cells)) guess)

-- the cells of a region and those that were saved
pub record IsKept (f : Form) (t : Trail) : Type 0 where
  pub list : AreCells f t.list
  pub saved : All (AreCells f) t.saved

-- the row of a sequence: the place where its cells begin, and the place of each interval among its members
pub record IsRow (first : ℕ) (row : Row) : Type 0 where
  pub start : row.start ≡ first
  pub places : (x : Itv) → slice_index_or row.places x.0 (length row.members) ≡ place_of row.members x
  pub few : length row.members ≤ 500
  pub near : row.start ≤ 100000000

abbrev pub AreRows : ℕ → List Row → Type 0
AreRows start [] = Unit {0}
AreRows start (row ∷ rows) = IsRow start row × AreRows (start + pair_count (length row.members)) rows

pub record IsFrame (sizes : List SizeRange) (list : List Row) (count : ℕ) : Type 0 where
  pub rows : AreRows (5 * length sizes) list
  pub few : length list ≤ 200
  pub cells : count ≡ 5 * length sizes + pairs_in (map (λ row. row.members) list)

-- members that the frame of so many intervals can hold
abbrev pub fits_frame : ℕ → SequenceDef → Bool
fits_frame n d = nat_le (length d.members) 500 && list_all (λ x. nat_lt x.0 n) d.members

-- the bounds of the interval of this number where the topic is assumed
abbrev pub bounds_under : Topic → ℕ → Bounds → Bounds
bounds_under (One x c) n b = if nat_eq x.0 n then guessed c b else b
bounds_under (Two p x y) n b = if nat_eq x.0 n || nat_eq y.0 n then as_present b else b

-- the order of two members where the topic is assumed
abbrev pub order_under : Topic → Seq → Itv → Itv → OrderCell → OrderCell
order_under (One x c) p a b o = o
order_under (Two q x y) p a b o = if not (nat_eq q.0 p.0) then o else if same x a && same y b then Forward else if same x b && same y a then Backward else o
