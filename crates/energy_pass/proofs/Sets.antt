-- Sets of rows: what they reach, and what cuts say of them.
use Rattle.std.proofs.Common.{◌≡◌, ℕ, zero, suc, ◌+◌, ◌<◌, ℤ, pos, ◌+ℤ◌, ◌-ℤ◌, ◌*ℤ◌, ◌≤ℤ◌, ◌<ℤ◌, Bool, true, false, List, [], ◌∷◌, length, map, refl, sym, ap, ◌∙◌, subst, inl, inr, ◌⊎◌, arith}
use Rattle.std.specs.Prelude.{nat_eq, int_le, if◌then◌else◌}
use Rattle.std.specs.Int.{int_min}
use Rattle.std.specs.List.{Contains}
use Rattle.std.proofs.lemmas.Bool.{cases_lt, and_parts, and_from}
use Rattle.std.proofs.lemmas.Int.{ints, int_min_is}
use Rattle.std.proofs.lemmas.List.{get_or_past, get_or_default}
use Rattle.std.proofs.lemmas.List.Elements.{Contains-get_or}
use Rattle.envelope.specs.code.Bars.{Bars, bar_in, has, IsOnce, least_est, energy_of, reach_of}
use Rattle.task_sets.specs.Times.{Times, IsSized, size_at, sum_of, rises_from}
use Rattle.task_sets.specs.laws.Sums.{load as load_by, pick, has_cases, has_first, has_later, Once, sum_once, load_mono, same_number}
use Rattle.task_sets.specs.laws.Ects.{up_from, up_has, kept, keep, keep_has, keep_passes, keep_sum, keep_rises_all, rises_all, some_list}
use Rattle.task_sets.specs.laws.EdgeCuts.{keep_within, once_rises}
use Rattle.energy_pass.specs.declared.rows.Row.{Row}
use Rattle.energy_pass.specs.code.Rows.{row_at, AreRows, counts, energy_in, load, IsOver}
use Rattle.energy_pass.specs.code.Trees.{bar_of}
use Rattle.refute_energy.specs.laws.Products.{rises as product_rises, apart}

abbrev no_row : Row
no_row = record { est = pos 0; lct = pos 0; energy = pos 0 }

-- a tree of these rows; which bars are on plays no part in what a set reaches
abbrev pub over_rows : List Row → ℤ → List Bool → Bars
over_rows rows c on = record { bars = map bar_of rows; capacity = c; on = on }

bar_est : (rows : List Row) (k : ℕ) → (bar_in (map bar_of rows) k).est ≡ (row_at rows k).est
bar_est [] k = refl
bar_est (r ∷ rows) zero = refl
bar_est (r ∷ rows) (suc k) = bar_est rows k

bar_energy : (rows : List Row) (k : ℕ) → (bar_in (map bar_of rows) k).energy ≡ (row_at rows k).energy
bar_energy [] k = refl
bar_energy (r ∷ rows) zero = refl
bar_energy (r ∷ rows) (suc k) = bar_energy rows k

-- the least earliest start is that of a member
pub least_in : (rows : List Row) (c : ℤ) (on : List Bool) (k : ℕ) (ks : List ℕ) → (y : ℕ) × (has (k ∷ ks) y ≡ true) × ((row_at rows y).est ≡ least_est (over_rows rows c on) k ks)
least_in rows c on k [] = (k, has_first k [], sym (bar_est rows k))
least_in rows c on k (j ∷ ks) =
    let rest = least_in rows c on j ks in
    let a = (bar_in (map bar_of rows) k).est in
    let b = least_est (over_rows rows c on) j ks in
    elim (int_min_cases a b) [
      | inl is ↦ (k, has_first k (j ∷ ks), sym (bar_est rows k) ∙ sym is)
      | inr is ↦ (rest.0, has_later k rest.0 (j ∷ ks) rest.1, rest.2 ∙ sym is)
    ]
  where
    int_min_cases : (a b : ℤ) → (int_min a b ≡ a) ⊎ (int_min a b ≡ b)
    int_min_cases a b = decided (int_le a b) refl
      where
        decided : (t : Bool) → int_le a b ≡ t → (int_min a b ≡ a) ⊎ (int_min a b ≡ b)
        decided true h = inl (grind (arith, ints, h))
        decided false h = inr (grind (arith, ints, h))

pub least_low : (rows : List Row) (c : ℤ) (on : List Bool) (k : ℕ) (ks : List ℕ) (y : ℕ) → has (k ∷ ks) y ≡ true → least_est (over_rows rows c on) k ks ≤ℤ (row_at rows y).est
least_low rows c on k [] y here = elim (has_cases (nat_eq k y) [] y here) [
  | inl same ↦ subst (λ i. (bar_in (map bar_of rows) k).est ≤ℤ (row_at rows i).est) (same_number k y same) (equal _ _ (bar_est rows k))
  | inr none ↦ cc
]
  where
    equal : (a b : ℤ) → a ≡ b → a ≤ℤ b
    equal a b h = omega (arith, ints, h)
least_low rows c on k (j ∷ ks) y here = elim (has_cases (nat_eq k y) (j ∷ ks) y here) [
  | inl same ↦ subst (λ i. int_min (bar_in (map bar_of rows) k).est (least_est (over_rows rows c on) j ks) ≤ℤ (row_at rows i).est) (same_number k y same)
      (first _ (least_est (over_rows rows c on) j ks) _ (bar_est rows k))
  | inr later ↦ second (bar_in (map bar_of rows) k).est _ _ (least_low rows c on j ks y later)
]
  where
    first : (a b c : ℤ) → a ≡ c → int_min a b ≤ℤ c
    first a b c h = omega (arith, ints, int_min_is a b, h)

    second : (a b c : ℤ) → b ≤ℤ c → int_min a b ≤ℤ c
    second a b c h = omega (arith, ints, int_min_is a b, h)

pub least_from : (rows : List Row) (c : ℤ) (on : List Bool) (e : ℤ) (k : ℕ) (ks : List ℕ) → ((y : ℕ) → has (k ∷ ks) y ≡ true → e ≤ℤ (row_at rows y).est) → e ≤ℤ least_est (over_rows rows c on) k ks
least_from rows c on e k ks each = let first = least_in rows c on k ks in subst (λ z. e ≤ℤ z) first.2 (each first.0 first.1)

-- which bars are on plays no part
least_same : (rows : List Row) (c : ℤ) (on off : List Bool) (k : ℕ) (ks : List ℕ) → least_est (over_rows rows c on) k ks ≡ least_est (over_rows rows c off) k ks
least_same rows c on off k [] = refl
least_same rows c on off k (j ∷ ks) = ap (int_min (bar_in (map bar_of rows) k).est) (least_same rows c on off j ks)

energy_same : (rows : List Row) (c : ℤ) (on off : List Bool) (ks : List ℕ) → energy_of (over_rows rows c on) ks ≡ energy_of (over_rows rows c off) ks
energy_same rows c on off [] = refl
energy_same rows c on off (k ∷ ks) = ap (λ z. (bar_in (map bar_of rows) k).energy +ℤ z) (energy_same rows c on off ks)

pub reach_same : (rows : List Row) (c : ℤ) (on off : List Bool) (k : ℕ) (ks : List ℕ) → reach_of (over_rows rows c on) k ks ≡ reach_of (over_rows rows c off) k ks
reach_same rows c on off k ks = ap (λ z. (c *ℤ z) +ℤ energy_of (over_rows rows c on) (k ∷ ks)) (least_same rows c on off k ks) ∙ ap (λ z. (c *ℤ least_est (over_rows rows c off) k ks) +ℤ z) (energy_same rows c on off (k ∷ ks))

-- energies as sizes of tasks
abbrev times : List Row → ℤ → ℤ → ℕ → Times
times rows start end k = record { est = pos 0; lct = pos 0; lst = pos 0; ect = pos 0; p = energy_in start end (row_at rows k) }

tall : (start end : ℤ) (r : Row) → pos 0 ≤ℤ r.energy → pos 0 ≤ℤ energy_in start end r
tall start end r from = by_test (counts start end r)
  where
    by_test : (b : Bool) → pos 0 ≤ℤ (if b then r.energy else pos 0)
    by_test true = from
    by_test false = omega (arith, ints)

pub energy_low : (rows : List Row) → AreRows rows → (k : ℕ) → pos 0 ≤ℤ (row_at rows k).energy
energy_low rows are k = elim (cases_lt k (length rows)) [
  | inl within ↦ (are.near k no_row within).energy_from
  | inr past ↦ subst (λ (r : Row). pos 0 ≤ℤ r.energy) (sym (get_or_past rows k no_row past)) (omega (arith, ints))
]

sized : (rows : List Row) (start end : ℤ) → AreRows rows → IsSized (times rows start end)
sized rows start end are = record { sizes = λ k. tall start end (row_at rows k) (energy_low rows are k) }

-- the load by places
all_places : (rows : List Row) (start end : ℤ) (b : ℕ) (g : ℕ → ℤ) → ((i : ℕ) → g (b + i) ≡ energy_in start end (row_at rows i)) → load_by g (λ y. true) (up_from b (length rows)) ≡ load rows start end
all_places [] start end b g each = refl
all_places (r ∷ rows) start end b g each = both (g b) (energy_in start end r) _ _ (ap g (here b) ∙ each 0) (all_places rows start end (suc b) g (λ j. ap g (next b j) ∙ each (suc j)))
  where
    here : (b : ℕ) → b ≡ b + 0
    here b = omega arith

    next : (b j : ℕ) → suc b + j ≡ b + suc j
    next b j = omega arith

    both : (x y z w : ℤ) → x ≡ y → z ≡ w → (x +ℤ z) ≡ (y +ℤ w)
    both x y z w h k = omega (arith, ints, h, k)

places : (rows : List Row) (start end : ℤ) → load_by (size_at (times rows start end)) (λ y. true) (up_from 0 (length rows)) ≡ load rows start end
places rows start end = all_places rows start end 0 (λ k. energy_in start end (row_at rows k)) (λ i. ap (λ k. energy_in start end (row_at rows k)) (same i))
  where
    same : (i : ℕ) → 0 + i ≡ i
    same i = omega arith

-- a set of rows that count has their energies
counted_energy : (start end : ℤ) (r : Row) → counts start end r ≡ true → energy_in start end r ≡ r.energy
counted_energy start end r is = ap (λ b. if b then r.energy else pos 0) is

set_energy : (rows : List Row) (c : ℤ) (on : List Bool) (start end : ℤ) (ks : List ℕ) → ((y : ℕ) → has ks y ≡ true → counts start end (row_at rows y) ≡ true) → energy_of (over_rows rows c on) ks ≡ sum_of (times rows start end) ks
set_energy rows c on start end [] each = refl
set_energy rows c on start end (k ∷ ks) each =
    both _ _ _ _ (bar_energy rows k ∙ sym (counted_energy start end (row_at rows k) (each k (has_first k ks)))) (set_energy rows c on start end ks (λ y here. each y (has_later k y ks here)))
  where
    both : (x y z w : ℤ) → x ≡ y → z ≡ w → (x +ℤ z) ≡ (y +ℤ w)
    both x y z w h k = omega (arith, ints, h, k)

once_of : (ks : List ℕ) → IsOnce ks → Once ks
once_of [] once = tt
once_of (k ∷ ks) once = (once.0, once_of ks once.1)

once_to : (ks : List ℕ) → Once ks → IsOnce ks
once_to [] once = tt
once_to (k ∷ ks) once = (once.0, once_to ks once.1)

-- a set that reaches beyond what is offered up to the end of its rows shows a cut
pub set_over : (rows : List Row) (c end : ℤ) (on : List Bool) (k : ℕ) (ks : List ℕ) → AreRows rows → pos 0 ≤ℤ c → IsOnce (k ∷ ks)
    → ((y : ℕ) → has (k ∷ ks) y ≡ true → (y < length rows) × ((row_at rows y).lct ≤ℤ end)) → (c *ℤ end) <ℤ reach_of (over_rows rows c on) k ks → (start : ℤ) × IsOver rows c start end
set_over rows c end on k ks are from once each over =
    let start = least_est (over_rows rows c on) k ks in
    let first = least_in rows c on k ks in
    let there = each first.0 first.1 in
    let d = times rows start end in
    let counting : (y : ℕ) → has (k ∷ ks) y ≡ true → counts start end (row_at rows y) ≡ true = λ y here. and_from _ _ (le_true _ _ (least_low rows c on k ks y here)) (le_true _ _ (each y here).1) in
    let energy = set_energy rows c on start end (k ∷ ks) counting in
    let one = sum_once d (up_from 0 (length rows)) (k ∷ ks) (sized rows start end are) (once_of (k ∷ ks) once) (λ y here. up_has 0 (length rows) y (omega arith) (omega (arith, (each y here).0))) in
    let two = load_mono (size_at d) (has (k ∷ ks)) (λ y. true) (up_from 0 (length rows)) (sized rows start end are).sizes (λ y h. refl) in
    let all = places rows start end in (
      start,
      record {
        row = row_at rows first.0;
        there = Contains-row rows first.0 there.0;
        starts = first.2;
        ends = there.1;
        over = chain (c *ℤ (end -ℤ start)) (c *ℤ end) (c *ℤ start) (energy_of (over_rows rows c on) (k ∷ ks)) _ _ _ (apart c end start from) over energy one two _ all;
      },
    )
  where
    le_true : (a b : ℤ) → a ≤ℤ b → int_le a b ≡ true
    le_true a b h = grind (arith, ints, h)

    Contains-row : (rows : List Row) (i : ℕ) → i < length rows → Contains rows (row_at rows i)
    Contains-row rows i within = Contains-get_or rows i no_row within

    chain : (a b s e f g h : ℤ) → a ≡ b -ℤ s → b <ℤ (s +ℤ e) → e ≡ f → f ≤ℤ g → g ≤ℤ h → (l : ℤ) → h ≡ l → a <ℤ l
    chain a b s e f g h is over p q r l t = omega (arith, ints, is, over, p, q, r, t)

-- and a cut that needs more than is offered has such a set
pub record FullSet (rows : List Row) (c end : ℤ) : Type 0 where
  pub first : ℕ
  pub others : List ℕ
  pub once : IsOnce (first ∷ others)
  pub each : (y : ℕ) → has (first ∷ others) y ≡ true → (y < length rows) × ((row_at rows y).lct ≤ℤ end)
  pub over : (c *ℤ end) <ℤ reach_of (over_rows rows c []) first others

up_below : (a n y : ℕ) → has (up_from a n) y ≡ true → y < a + n
up_below a zero y here = cc
up_below a (suc n) y here = elim (has_cases (nat_eq a y) (up_from (suc a) n) y here) [
  | inl same ↦ let is = same_number a y same in omega (arith, is)
  | inr later ↦ let rest = up_below (suc a) n y later in omega (arith, rest)
]

pub over_set : (rows : List Row) (c start end : ℤ) → pos 0 ≤ℤ c → IsOver rows c start end → FullSet rows c end
over_set rows c start end from over =
    let t : ℕ → Bool = λ k. counts start end (row_at rows k) in
    let n = length rows in
    let i = over.there.0 in
    let row : row_at rows i ≡ over.row = get_or_default rows i no_row over.row over.there.1 ∙ over.there.2 in
    let on_i : t i ≡ true = subst (λ (r : Row). counts start end r ≡ true) (sym row) (and_from _ _ (le_true start over.row.est (equal _ _ (sym over.starts))) (le_true over.row.lct end over.ends)) in
    let ks = keep t (up_from 0 n) in
    let some = some_list ks i (keep_has t (up_from 0 n) i (up_has 0 n i (omega arith) (omega (arith, over.there.1))) on_i) in
    let k = some.0 in
    let rest = some.1 in
    let is : ks ≡ k ∷ rest = some.2 in
    let passes : (y : ℕ) → has (k ∷ rest) y ≡ true → t y ≡ true = λ y here. keep_passes t (up_from 0 n) y (subst (λ xs. has xs y ≡ true) (sym is) here) in
    let rises : rises_from k rest ≡ true = subst (λ xs. rises_all xs ≡ true) is (keep_rises_all t 0 n) in
    let d = times rows start end in
    let energy = set_energy rows c [] start end (k ∷ rest) passes in
    let kept : sum_of d (k ∷ rest) ≡ load_by (size_at d) t (up_from 0 n) = subst (λ xs. sum_of d xs ≡ load_by (size_at d) t (up_from 0 n)) is (keep_sum d t (up_from 0 n)) in
    let all = all_tested rows start end (up_from 0 n) in
    let whole = places rows start end in
    let least = least_from rows c [] start k rest (λ y here. (le_both start end (row_at rows y) (passes y here)).0) in
    record {
      first = k;
      others = rest;
      once = once_to (k ∷ rest) (once_rises k rest rises);
      each = λ y here. (within rows start end y here is, (le_both start end (row_at rows y) (passes y here)).1);
      over = chain (c *ℤ (end -ℤ start)) (c *ℤ end) (c *ℤ start) (c *ℤ least_est (over_rows rows c []) k rest) (energy_of (over_rows rows c []) (k ∷ rest)) _ _ _ _ (apart c end start from) over.over (product_rises c start _ from least) energy kept all whole;
    }
  where
    le_true : (a b : ℤ) → a ≤ℤ b → int_le a b ≡ true
    le_true a b h = grind (arith, ints, h)

    equal : (a b : ℤ) → a ≡ b → a ≤ℤ b
    equal a b h = omega (arith, ints, h)

    le_both : (start end : ℤ) (r : Row) → counts start end r ≡ true → (start ≤ℤ r.est) × (r.lct ≤ℤ end)
    le_both start end r h = let two = and_parts (int_le start r.est) (int_le r.lct end) h in (le_holds _ _ two.0, le_holds _ _ two.1)
      where
        le_holds : (a b : ℤ) → int_le a b ≡ true → a ≤ℤ b
        le_holds a b h = grind (arith, ints, h)

    within : (rows : List Row) (start end : ℤ) (y : ℕ) {k : ℕ} {rest : List ℕ} → has (k ∷ rest) y ≡ true → keep (λ j. counts start end (row_at rows j)) (up_from 0 (length rows)) ≡ k ∷ rest → y < length rows
    within rows start end y here is =
        let low = up_below 0 (length rows) y (keep_within (λ j. counts start end (row_at rows j)) (up_from 0 (length rows)) y (subst (λ xs. has xs y ≡ true) (sym is) here)) in
        omega (arith, low)

    all_tested : (rows : List Row) (start end : ℤ) (xs : List ℕ) → load_by (size_at (times rows start end)) (λ k. counts start end (row_at rows k)) xs ≡ load_by (size_at (times rows start end)) (λ y. true) xs
    all_tested rows start end [] = refl
    all_tested rows start end (x ∷ xs) = both _ _ _ _ (one (counts start end (row_at rows x)) (row_at rows x).energy) (all_tested rows start end xs)
      where
        one : (b : Bool) (z : ℤ) → pick b (if b then z else pos 0) ≡ (if b then z else pos 0)
        one true z = refl
        one false z = refl

        both : (x y z w : ℤ) → x ≡ y → z ≡ w → (x +ℤ z) ≡ (y +ℤ w)
        both x y z w h k = omega (arith, ints, h, k)

    chain : (a b s l e f g h w : ℤ) → a ≡ b -ℤ s → a <ℤ w → s ≤ℤ l → e ≡ f → f ≡ g → g ≡ h → h ≡ w → b <ℤ (l +ℤ e)
    chain a b s l e f g h w is over low p q r t = omega (arith, ints, is, over, low, p, q, r, t)
