-- Rows of white places with at most one gray place, and sets of places.
use Rattle.std.proofs.Common.{◌≡◌, ◌≢◌, ℕ, zero, suc, ◌+◌, ◌-◌, ◌<◌, ◌≤◌, ℤ, pos, ◌+ℤ◌, ◌≤ℤ◌, Bool, true, false, List, [], ◌∷◌, length, Option, None, Some, refl, ap, sym, ◌∙◌, subst, ◌⊎◌, inl, inr, arith}
use Rattle.std.specs.Prelude.{nat_eq}
use Rattle.std.proofs.lemmas.Bool.{cases_eq, cases_lt}
use Rattle.std.proofs.lemmas.List.{get_or_past}
use Rattle.std.proofs.lemmas.Int.{ints}
use Rattle.thetatree.specs.declared.leaves.Colour.{Colour}
use Rattle.thetatree.specs.declared.leaves.Colour.TheVariants.{Out, White, Gray}
use Rattle.thetatree.specs.code.Leaves.{Leaves, task_at, colour_at, AreTasks, has, IsOnce, sum_of, end_of, IsChosen}
use Rattle.thetatree.proofs.Parts.{weight, white_at, white_sum, Begins, end_from, Reaches}
use Rattle.thetatree.proofs.Weights.{replaced, replaced_same, replaced_other, replaced_low, replaced_high, eq_from}
use Rattle.thetatree.proofs.Members.{has_cases, has_first, has_later, first_of, least_below, least_is, covered}

-- what the proofs ask of a tree: its tasks, and that its width has all places
pub record IsWide (t : Leaves) (width : ℕ) : Type 0 where
  pub tasks : AreTasks t.tasks
  pub sizes : (k : ℕ) → pos 0 ≤ℤ (task_at t k).p
  pub same : length t.colours ≡ length t.tasks
  pub room : length t.tasks ≤ width

-- a place with a colour is there
pub there : (t : Leaves) (k : ℕ) → colour_at t k ≢ Out → k < length t.colours
there t k is = elim (cases_lt k (length t.colours)) [ inl within ↦ within | inr past ↦ absurd (is (get_or_past t.colours k Out past)) ]

pub white_there : (t : Leaves) (k : ℕ) → colour_at t k ≡ White → k < length t.colours
white_there t k is = there t k (λ out. let clash : White ≡ Out = sym is ∙ out in cc)

pub gray_there : (t : Leaves) (k : ℕ) → colour_at t k ≡ Gray → k < length t.colours
gray_there t k is = there t k (λ out. let clash : Gray ≡ Out = sym is ∙ out in cc)

white_weight : (t : Leaves) (k : ℕ) → colour_at t k ≡ White → white_at t k ≡ (task_at t k).p
white_weight t k is = ap (λ c. weight c (task_at t k).p) is

gray_weight : (t : Leaves) (k : ℕ) → colour_at t k ≡ Gray → white_at t k ≡ pos 0
gray_weight t k is = ap (λ c. weight c (task_at t k).p) is

white_from : (t : Leaves) (width : ℕ) → IsWide t width → (k : ℕ) → pos 0 ≤ℤ white_at t k
white_from t width wide k = coloured (colour_at t k)
  where
    coloured : (c : Colour) → pos 0 ≤ℤ weight c (task_at t k).p
    coloured Out = omega (arith, ints)
    coloured White = wide.sizes k
    coloured Gray = omega (arith, ints)

-- a set ends no later than the row from its first place

white_set : (t : Leaves) (width lo : ℕ) → IsWide t width → lo ≤ width → (ks : List ℕ) → IsChosen t None ks → ((y : ℕ) → has ks y ≡ true → lo ≤ y) → sum_of t ks ≤ℤ white_sum t lo width
white_set t width lo wide low ks chosen from = covered t lo width low ks chosen.once (white_at t) (white_from t width wide) (λ y here. elim (chosen.white y here) [
  | inl white ↦ (from y here, omega (arith, white_there t y white, wide.same, wide.room), omega (arith, ints, white_weight t y white))
  | inr none ↦ cc
])

gray_set : (t : Leaves) (width lo g : ℕ) → IsWide t width → lo ≤ g → g < width → (ks : List ℕ) → IsChosen t (Some g) ks → ((y : ℕ) → has ks y ≡ true → lo ≤ y)
    → sum_of t ks ≤ℤ (white_sum t lo width +ℤ (task_at t g).p)
gray_set t width lo g wide low high ks chosen from =
    let size = (task_at t g).p in
    let row = covered t lo width (omega (arith, low, high)) ks chosen.once (replaced (white_at t) g size) grown (λ y here. each y (from y here) (chosen.white y here)) in
    omega (arith, ints, row, replaced_low (white_at t) g size lo low, replaced_high (white_at t) g size width high, gray_weight t g chosen.gray_in.1)
  where
    grown : (i : ℕ) → pos 0 ≤ℤ replaced (white_at t) g (task_at t g).p i
    grown i = elim (cases_eq g i) [
      | inl same ↦ omega (arith, ints, replaced_same (white_at t) g i (task_at t g).p same, wide.sizes g)
      | inr other ↦ omega (arith, ints, replaced_other (white_at t) g i (task_at t g).p other, white_from t width wide i)
    ]

    each : (y : ℕ) → lo ≤ y → (colour_at t y ≡ White) ⊎ (Some g ≡ Some y) → (lo ≤ y) × (y < width) × ((task_at t y).p ≤ℤ replaced (white_at t) g (task_at t g).p y)
    each y after (inl white) = (
      after,
      omega (arith, white_there t y white, wide.same, wide.room),
      omega (arith, ints, white_weight t y white, replaced_other (white_at t) g y (task_at t g).p (λ same. let clash : White ≡ Gray = sym white ∙ ap (colour_at t) (sym same) ∙ chosen.gray_in.1 in cc)),
    )
    each y after (inr gray) =
        let same : g ≡ y = cc in
        (after, omega (arith, same, high), omega (arith, ints, replaced_same (white_at t) g y (task_at t g).p same, ap (λ i. (task_at t i).p) same))

pub record EndsBy (t : Leaves) (width : ℕ) (gray : Option ℕ) (z : ℤ) : Type 0 where
  pub first : ℕ
  pub within : first < width
  pub begins : Begins t first width gray
  pub by : z ≤ℤ end_from t first width gray

pub set_ends : (t : Leaves) (width : ℕ) → IsWide t width → (gray : Option ℕ) (k : ℕ) (ks : List ℕ) → IsChosen t gray (k ∷ ks) → EndsBy t width gray (end_of t k ks)
set_ends t width wide None k ks chosen =
    let first = first_of k ks in
    let white : colour_at t first.0 ≡ White = elim (chosen.white first.0 first.1) [ inl is ↦ is | inr none ↦ cc ] in
    let within : first.0 < width = omega (arith, white_there t first.0 white, wide.same, wide.room) in
    record {
      first = first.0;
      within = within;
      begins = white;
      by = omega (arith, ints, least_below t k ks first.0 first.1, white_set t width first.0 wide (omega (arith, within)) (k ∷ ks) chosen first.2);
    }
set_ends t width wide (Some g) k ks chosen =
    let first = first_of k ks in
    let high : g < width = omega (arith, gray_there t g chosen.gray_in.1, wide.same, wide.room) in
    let low : first.0 ≤ g = first.2 g chosen.gray_in.0 in
    record {
      first = first.0;
      within = omega (arith, low, high);
      begins = (low, high, chosen.gray_in.1, elim (chosen.white first.0 first.1) [ inl white ↦ inl white | inr gray ↦ inr (let same : g ≡ first.0 = cc in sym same) ]);
      by = omega (arith, ints, least_below t k ks first.0 first.1, gray_set t width first.0 g wide low high (k ∷ ks) chosen first.2);
    }

-- a row is a set: its white places

abbrev pub kept : Colour → ℕ → List ℕ → List ℕ
kept Out k ks = ks
kept White k ks = k ∷ ks
kept Gray k ks = ks

abbrev pub whites : Leaves → ℕ → ℕ → List ℕ
whites t lo zero = []
whites t lo (suc n) = kept (colour_at t lo) lo (whites t (suc lo) n)

whites_has : (t : Leaves) (lo n y : ℕ) → has (whites t lo n) y ≡ true → (lo ≤ y) × (colour_at t y ≡ White)
whites_has t lo zero y here = cc
whites_has t lo (suc n) y here = split (colour_at t lo) refl here (λ later. let is = whites_has t (suc lo) n y later in (omega (arith, is.0), is.1))
  where
    split : (c : Colour) → colour_at t lo ≡ c → has (kept c lo (whites t (suc lo) n)) y ≡ true → (has (whites t (suc lo) n) y ≡ true → (lo ≤ y) × (colour_at t y ≡ White))
        → (lo ≤ y) × (colour_at t y ≡ White)
    split Out is later rest = rest later
    split Gray is later rest = rest later
    split White is later rest = elim (has_cases (nat_eq lo y) (whites t (suc lo) n) y later) [
      | inl same ↦ let at : lo ≡ y = eq_from lo y same in (omega (arith, at), subst (λ i. colour_at t i ≡ White) at is)
      | inr after ↦ rest after
    ]

-- a place that isn't in a list
pub absent : (ks : List ℕ) (k : ℕ) → (has ks k ≡ true → ⊥) → has ks k ≡ false
absent ks k none = decided (has ks k) refl
  where
    decided : (b : Bool) → has ks k ≡ b → has ks k ≡ false
    decided true is = absurd (none is)
    decided false is = is

whites_once : (t : Leaves) (lo n : ℕ) → IsOnce (whites t lo n)
whites_once t lo zero = tt
whites_once t lo (suc n) = split (colour_at t lo) (whites_once t (suc lo) n)
  where
    split : (c : Colour) → IsOnce (whites t (suc lo) n) → IsOnce (kept c lo (whites t (suc lo) n))
    split Out rest = rest
    split Gray rest = rest
    split White rest = (absent (whites t (suc lo) n) lo (λ here. omega (arith, (whites_has t (suc lo) n lo here).0)), rest)

whites_sum : (t : Leaves) (lo n hi : ℕ) → hi ≡ lo + n → sum_of t (whites t lo n) ≡ white_sum t lo hi
whites_sum t lo zero hi end = let same : hi ≡ lo = omega (arith, end) in subst (λ i. pos 0 ≡ white_sum t lo i) (sym same) (omega (arith, ints))
whites_sum t lo (suc n) hi end = split (colour_at t lo) refl (whites_sum t (suc lo) n hi (omega (arith, end)))
  where
    split : (c : Colour) → colour_at t lo ≡ c → sum_of t (whites t (suc lo) n) ≡ white_sum t (suc lo) hi → sum_of t (kept c lo (whites t (suc lo) n)) ≡ white_sum t lo hi
    split Out is later = omega (arith, ints, later, ap (λ c. weight c (task_at t lo).p) is)
    split Gray is later = omega (arith, ints, later, gray_weight t lo is)
    split White is later = omega (arith, ints, later, white_weight t lo is)

-- a later place starts no earlier
starts_later : (t : Leaves) (width : ℕ) → IsWide t width → (j y : ℕ) → j ≤ y → y < length t.colours → (task_at t j).est ≤ℤ (task_at t y).est
starts_later t width wide j y low within = wide.tasks.in_order j y low (omega (arith, within, wide.same))

pub record Ends (t : Leaves) (gray : Option ℕ) (z : ℤ) : Type 0 where
  pub first : ℕ
  pub others : List ℕ
  pub chosen : IsChosen t gray (first ∷ others)
  pub is : end_of t first others ≡ z

-- the row from a white place on
white_row : (t : Leaves) (width : ℕ) → IsWide t width → (j n : ℕ) → width ≡ suc j + n → colour_at t j ≡ White → Ends t None (end_from t j width None)
white_row t width wide j n end white = record {
  first = j;
  others = whites t (suc j) n;
  chosen = record {
    once = (absent (whites t (suc j) n) j (λ here. omega (arith, (whites_has t (suc j) n j here).0)), whites_once t (suc j) n);
    white = λ y here. elim (has_cases (nat_eq j y) (whites t (suc j) n) y here) [
      | inl same ↦ inl (subst (λ i. colour_at t i ≡ White) (eq_from j y same) white)
      | inr later ↦ inl (whites_has t (suc j) n y later).1
    ];
    gray_in = tt;
  };
  is = omega (
    arith,
    ints,
    whites_sum t (suc j) n width end,
    white_weight t j white,
    least_is t j (whites t (suc j) n) (λ y here.
        let is = whites_has t (suc j) n y here in starts_later t width wide j y (omega (arith, is.0)) (white_there t y is.1)),
  );
}

-- the row from a gray place on
gray_row : (t : Leaves) (width : ℕ) → IsWide t width → (g n : ℕ) → width ≡ suc g + n → colour_at t g ≡ Gray → Ends t (Some g) (end_from t g width (Some g))
gray_row t width wide g n end gray = record {
  first = g;
  others = whites t (suc g) n;
  chosen = record {
    once = (absent (whites t (suc g) n) g (λ here. omega (arith, (whites_has t (suc g) n g here).0)), whites_once t (suc g) n);
    white = λ y here. elim (has_cases (nat_eq g y) (whites t (suc g) n) y here) [
      | inl same ↦ inr (ap (λ i. Some i) (eq_from g y same))
      | inr later ↦ inl (whites_has t (suc g) n y later).1
    ];
    gray_in = (has_first g (whites t (suc g) n), gray);
  };
  is = omega (
    arith,
    ints,
    whites_sum t (suc g) n width end,
    gray_weight t g gray,
    least_is t g (whites t (suc g) n) (λ y here.
        let is = whites_has t (suc g) n y here in starts_later t width wide g y (omega (arith, is.0)) (white_there t y is.1)),
  );
}

-- the row from a white place on, with a gray place after it
mixed_row : (t : Leaves) (width : ℕ) → IsWide t width → (j g n : ℕ) → width ≡ suc j + n → j ≤ g → colour_at t j ≡ White → colour_at t g ≡ Gray → Ends t (Some g) (end_from t j width (Some g))
mixed_row t width wide j g n end low white gray = record {
  first = j;
  others = g ∷ whites t (suc j) n;
  chosen = record {
    once = (
      absent (g ∷ whites t (suc j) n) j (λ here. elim (has_cases (nat_eq g j) (whites t (suc j) n) j here) [
        | inl same ↦ clash j (eq_from g j same) white
        | inr later ↦ omega (arith, (whites_has t (suc j) n j later).0)
      ]),
      (absent (whites t (suc j) n) g (λ here. clash g refl (whites_has t (suc j) n g here).1), whites_once t (suc j) n),
    );
    white = λ y here. elim (has_cases (nat_eq j y) (g ∷ whites t (suc j) n) y here) [
      | inl same ↦ inl (subst (λ i. colour_at t i ≡ White) (eq_from j y same) white)
      | inr after ↦ elim (has_cases (nat_eq g y) (whites t (suc j) n) y after) [
        | inl same ↦ inr (ap (λ i. Some i) (eq_from g y same))
        | inr later ↦ inl (whites_has t (suc j) n y later).1
      ]
    ];
    gray_in = (has_later j (g ∷ whites t (suc j) n) g (has_first g (whites t (suc j) n)), gray);
  };
  is = omega (
    arith,
    ints,
    whites_sum t (suc j) n width end,
    white_weight t j white,
    least_is t j (g ∷ whites t (suc j) n) (λ y here. elim (has_cases (nat_eq g y) (whites t (suc j) n) y here) [
      | inl same ↦ let at : g ≡ y = eq_from g y same in starts_later t width wide j y (omega (arith, low, at)) (subst (λ i. i < length t.colours) at (gray_there t g gray))
      | inr later ↦ let is = whites_has t (suc j) n y later in starts_later t width wide j y (omega (arith, is.0)) (white_there t y is.1)
    ]),
  );
}
  where
    clash : (i : ℕ) → g ≡ i → colour_at t i ≡ White → ⊥
    clash i same is = let both : Gray ≡ White = sym gray ∙ ap (colour_at t) same ∙ is in cc

pub row_ends : (t : Leaves) (width : ℕ) → IsWide t width → (gray : Option ℕ) (z : ℤ) → Reaches t 0 width z gray → Ends t gray z
row_ends t width wide None z reaches = subst (Ends t None) (sym reaches.is)
    (white_row t width wide reaches.first (width - suc reaches.first) (omega (arith, reaches.to)) reaches.begins)
row_ends t width wide (Some g) z reaches = subst (Ends t (Some g)) (sym reaches.is) (elim reaches.begins.3 [
  | inl white ↦ mixed_row t width wide reaches.first g (width - suc reaches.first) (omega (arith, reaches.to)) reaches.begins.0 white reaches.begins.2
  | inr same ↦ subst (λ i. Ends t (Some g) (end_from t i width (Some g))) (sym same) (gray_row t width wide g (width - suc g) (omega (arith, reaches.begins.1)) reaches.begins.2)
])
