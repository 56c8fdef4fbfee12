-- Rows of places that are on, and sets of places.
use Rattle.std.proofs.Common.{◌≡◌, ℕ, zero, suc, ◌+◌, ◌-◌, ◌<◌, ◌≤◌, ℤ, pos, ◌+ℤ◌, ◌*ℤ◌, ◌≤ℤ◌, Bool, true, false, List, [], ◌∷◌, length, refl, ap, sym, ◌∙◌, subst, inl, inr, arith}
use Rattle.std.specs.Prelude.{nat_eq}
use Rattle.std.proofs.lemmas.Bool.{cases_lt}
use Rattle.std.proofs.lemmas.List.{get_or_past}
use Rattle.std.proofs.lemmas.Int.{ints}
use Rattle.envelope.specs.code.Bars.{Bars, bar_at, is_on, AreBars, IsCapacity, has, IsOnce, least_est, energy_of, reach_of, IsChosen}
use Rattle.envelope.proofs.Products.{product_rises}
use Rattle.envelope.proofs.Parts.{weight, energy_at, row_sum, start_at, reach_from, Reaches}
use Rattle.thetatree.proofs.Members.{has_cases, first_of}
use Rattle.thetatree.proofs.Sets.{absent}
use Rattle.thetatree.proofs.Weights.{eq_from}
use Rattle.envelope.proofs.Members.{least_below, least_is, covered}

-- what the proofs ask of a tree: its bars, and that its width has all places
pub record IsWide (t : Bars) (width : ℕ) : Type 0 where
  pub capacity : IsCapacity t.capacity
  pub bars : AreBars t.bars
  pub energies : (k : ℕ) → pos 0 ≤ℤ (bar_at t k).energy
  pub same : length t.on ≡ length t.bars
  pub room : length t.bars ≤ width

-- a place that is on is there
pub on_there : (t : Bars) (k : ℕ) → is_on t k ≡ true → k < length t.on
on_there t k is = elim (cases_lt k (length t.on)) [
  | inl within ↦ within
  | inr past ↦ absurd (let clash : true ≡ false = sym is ∙ get_or_past t.on k false past in cc)
]

on_weight : (t : Bars) (k : ℕ) → is_on t k ≡ true → energy_at t k ≡ (bar_at t k).energy
on_weight t k is = ap (λ on. weight on (bar_at t k).energy) is

energy_from : (t : Bars) (width : ℕ) → IsWide t width → (k : ℕ) → pos 0 ≤ℤ energy_at t k
energy_from t width wide k = switched (is_on t k)
  where
    switched : (on : Bool) → pos 0 ≤ℤ weight on (bar_at t k).energy
    switched false = omega (arith, ints)
    switched true = wide.energies k

-- a set reaches no further than the row from its first place

set_sum : (t : Bars) (width lo : ℕ) → IsWide t width → lo ≤ width → (ks : List ℕ) → IsChosen t ks → ((y : ℕ) → has ks y ≡ true → lo ≤ y) → energy_of t ks ≤ℤ row_sum t lo width
set_sum t width lo wide low ks chosen from = covered t lo width low ks chosen.once (energy_at t) (energy_from t width wide)
    (λ y here. let on = chosen.on y here in (from y here, omega (arith, on_there t y on, wide.same, wide.room), omega (arith, ints, on_weight t y on)))

pub record ReachesBy (t : Bars) (width : ℕ) (z : ℤ) : Type 0 where
  pub first : ℕ
  pub within : first < width
  pub on : is_on t first ≡ true
  pub by : z ≤ℤ reach_from t first width

pub set_reaches : (t : Bars) (width : ℕ) → IsWide t width → (k : ℕ) (ks : List ℕ) → IsChosen t (k ∷ ks) → ReachesBy t width (reach_of t k ks)
set_reaches t width wide k ks chosen =
    let first = first_of k ks in
    let on = chosen.on first.0 first.1 in
    let within : first.0 < width = omega (arith, on_there t first.0 on, wide.same, wide.room) in
    let start = product_rises t.capacity (least_est t k ks) (bar_at t first.0).est wide.capacity.0 (least_below t k ks first.0 first.1) in
    let sum = set_sum t width first.0 wide (omega (arith, within)) (k ∷ ks) chosen first.2 in
    record { first = first.0; within = within; on = on; by = together (t.capacity *ℤ least_est t k ks) (start_at t first.0) (energy_of t (k ∷ ks)) (row_sum t first.0 width) start sum }
  where
    together : (a b c d : ℤ) → a ≤ℤ b → c ≤ℤ d → (a +ℤ c) ≤ℤ (b +ℤ d)
    together a b c d h i = omega (arith, ints, h, i)

-- a row is a set: its places that are on

abbrev pub kept : Bool → ℕ → List ℕ → List ℕ
kept false k ks = ks
kept true k ks = k ∷ ks

abbrev pub ons : Bars → ℕ → ℕ → List ℕ
ons t lo zero = []
ons t lo (suc n) = kept (is_on t lo) lo (ons t (suc lo) n)

ons_has : (t : Bars) (lo n y : ℕ) → has (ons t lo n) y ≡ true → (lo ≤ y) × (is_on t y ≡ true)
ons_has t lo zero y here = cc
ons_has t lo (suc n) y here = split (is_on t lo) refl here (λ later. let is = ons_has t (suc lo) n y later in (omega (arith, is.0), is.1))
  where
    split : (on : Bool) → is_on t lo ≡ on → has (kept on lo (ons t (suc lo) n)) y ≡ true → (has (ons t (suc lo) n) y ≡ true → (lo ≤ y) × (is_on t y ≡ true))
        → (lo ≤ y) × (is_on t y ≡ true)
    split false is later rest = rest later
    split true is later rest = elim (has_cases (nat_eq lo y) (ons t (suc lo) n) y later) [
      | inl same ↦ let at : lo ≡ y = eq_from lo y same in (omega (arith, at), subst (λ i. is_on t i ≡ true) at is)
      | inr after ↦ rest after
    ]

-- a place that isn't in a list
ons_once : (t : Bars) (lo n : ℕ) → IsOnce (ons t lo n)
ons_once t lo zero = tt
ons_once t lo (suc n) = split (is_on t lo) (ons_once t (suc lo) n)
  where
    split : (on : Bool) → IsOnce (ons t (suc lo) n) → IsOnce (kept on lo (ons t (suc lo) n))
    split false rest = rest
    split true rest = (absent (ons t (suc lo) n) lo (λ here. omega (arith, (ons_has t (suc lo) n lo here).0)), rest)

ons_sum : (t : Bars) (lo n hi : ℕ) → hi ≡ lo + n → energy_of t (ons t lo n) ≡ row_sum t lo hi
ons_sum t lo zero hi end = let same : hi ≡ lo = omega (arith, end) in subst (λ i. pos 0 ≡ row_sum t lo i) (sym same) (omega (arith, ints))
ons_sum t lo (suc n) hi end = split (is_on t lo) refl (ons_sum t (suc lo) n hi (omega (arith, end)))
  where
    split : (on : Bool) → is_on t lo ≡ on → energy_of t (ons t (suc lo) n) ≡ row_sum t (suc lo) hi → energy_of t (kept on lo (ons t (suc lo) n)) ≡ row_sum t lo hi
    split false is later = omega (arith, ints, later, ap (λ on. weight on (bar_at t lo).energy) is)
    split true is later = omega (arith, ints, later, on_weight t lo is)

-- a later place starts no earlier
starts_later : (t : Bars) (width : ℕ) → IsWide t width → (j y : ℕ) → j ≤ y → y < length t.on → (bar_at t j).est ≤ℤ (bar_at t y).est
starts_later t width wide j y low within = wide.bars.in_order j y low (omega (arith, within, wide.same))

pub record ReachedBy (t : Bars) (z : ℤ) : Type 0 where
  pub first : ℕ
  pub others : List ℕ
  pub chosen : IsChosen t (first ∷ others)
  pub is : reach_of t first others ≡ z

-- the row from a place that is on
row_set : (t : Bars) (width : ℕ) → IsWide t width → (j n : ℕ) → width ≡ suc j + n → is_on t j ≡ true → ReachedBy t (reach_from t j width)
row_set t width wide j n end on =
    let start = ap (λ e. t.capacity *ℤ e) (least_is t j (ons t (suc j) n) (λ y here.
    let is = ons_has t (suc j) n y here in starts_later t width wide j y (omega (arith, is.0)) (on_there t y is.1))) in
    let rest = ons_sum t (suc j) n width end in
    let sum : energy_of t (j ∷ ons t (suc j) n) ≡ row_sum t j width = omega (arith, ints, rest, on_weight t j on) in
    record {
      first = j;
      others = ons t (suc j) n;
      chosen = record {
        once = (absent (ons t (suc j) n) j (λ here. omega (arith, (ons_has t (suc j) n j here).0)), ons_once t (suc j) n);
        on = λ y here. elim (has_cases (nat_eq j y) (ons t (suc j) n) y here) [
          | inl same ↦ subst (λ i. is_on t i ≡ true) (eq_from j y same) on
          | inr later ↦ (ons_has t (suc j) n y later).1
        ];
      };
      is = ap (λ a. a +ℤ energy_of t (j ∷ ons t (suc j) n)) start ∙ ap (λ s. start_at t j +ℤ s) sum;
    }

pub row_reached : (t : Bars) (width : ℕ) → IsWide t width → (z : ℤ) → Reaches t 0 width z → ReachedBy t z
row_reached t width wide z reaches = subst (ReachedBy t) (sym reaches.is)
    (row_set t width wide reaches.first (width - suc reaches.first) (omega (arith, reaches.to)) reaches.on)
