-- The walk for the start of a cut.
use Rattle.std.proofs.Common.{◌≡◌, ℕ, zero, suc, ◌+◌, ◌-◌, ◌*◌, ◌<◌, ◌≤◌, ℤ, pos, ◌+ℤ◌, ◌-ℤ◌, ◌*ℤ◌, ◌≤ℤ◌, ◌<ℤ◌, Bool, true, false, List, [], ◌∷◌, drop, length, refl, sym, ap, ◌∙◌, subst, inl, inr, arith}
use Rattle.std.specs.Prelude.{Some, None, int_le, int_lt, ◌&&◌, if◌then◌else◌}
use Rattle.std.proofs.lemmas.Bool.{and_parts, and_from, cases_eq, true≢false}
use Rattle.std.proofs.lemmas.Int.{ints}
use Rattle.std.proofs.lemmas.List.{at_drop_more, get_or_default}
use Rattle.std.proofs.lemmas.List.Elements.{Contains-get_or}
use Rattle.energy_pass.specs.declared.rows.Row.{Row}
use Rattle.energy_pass.specs.code.Rows.{row_at, AreRows, IsNearRow, IsByEst, counts, energy_in, load, IsOver, GivesStart}
use Rattle.energy_pass.specs.code.Starts.{energy_by, load_by, starts, Summed}

abbrev no_row : Row
no_row = record { est = pos 0; lct = pos 0; energy = pos 0 }

le_true : (a b : ℤ) → a ≤ℤ b → int_le a b ≡ true
le_true a b h = grind (arith, ints, h)

le_holds : (a b : ℤ) → int_le a b ≡ true → a ≤ℤ b
le_holds a b h = grind (arith, ints, h)

-- where each row starts at a moment or later, those that complete by another count
counted : (s e : ℤ) (r : Row) → s ≤ℤ r.est → energy_in s e r ≡ energy_by e r
counted s e r from = ap (λ b. if (b && int_le r.lct e) then r.energy else pos 0) (le_true s r.est from)

all_counted : (s e : ℤ) (rows : List Row) → ((j : ℕ) → j < length rows → s ≤ℤ (row_at rows j).est) → load rows s e ≡ load_by rows e
all_counted s e [] from = refl
all_counted s e (r ∷ rows) from = both _ _ _ _ (counted s e r (from 0 (omega arith))) (all_counted s e rows (λ j within. from (suc j) (omega (arith, within))))
  where
    both : (x y z w : ℤ) → x ≡ y → z ≡ w → (x +ℤ z) ≡ (y +ℤ w)
    both x y z w h k = omega (arith, ints, h, k)

tall : (s e : ℤ) (r : Row) → pos 0 ≤ℤ r.energy → pos 0 ≤ℤ energy_in s e r
tall s e r from = by_test (counts s e r)
  where
    by_test : (b : Bool) → pos 0 ≤ℤ (if b then r.energy else pos 0)
    by_test true = from
    by_test false = omega (arith, ints)

-- the last rows need no more than all
last_below : (s e : ℤ) (rows : List Row) (k : ℕ) → ((j : ℕ) → j < length rows → pos 0 ≤ℤ (row_at rows j).energy) → ((j : ℕ) → k ≤ j → j < length rows → s ≤ℤ (row_at rows j).est) → load_by (drop k rows) e ≤ℤ load rows s e
last_below s e [] zero tall_all from = omega (arith, ints)
last_below s e [] (suc k) tall_all from = omega (arith, ints)
last_below s e (r ∷ rows) zero tall_all from = equal _ _ (sym (all_counted s e (r ∷ rows) (λ j within. from j (omega arith) within)))
  where
    equal : (a b : ℤ) → a ≡ b → a ≤ℤ b
    equal a b h = omega (arith, ints, h)
last_below s e (r ∷ rows) (suc k) tall_all from =
    more _ _ _ (tall s e r (tall_all 0 (omega arith))) (last_below s e rows k (λ j within. tall_all (suc j) (omega (arith, within))) (λ j low within. from (suc j) (omega (arith, low)) (omega (arith, within))))
  where
    more : (a b c : ℤ) → pos 0 ≤ℤ b → a ≤ℤ c → a ≤ℤ (b +ℤ c)
    more a b c h k = omega (arith, ints, h, k)

-- the first row of a cut, in the order of the earliest starts
pub record FirstOf (rows : List Row) (s e : ℤ) : Type 0 where
  pub place : ℕ
  pub within : place < length rows
  pub est : (row_at rows place).est ≡ s
  pub lct : (row_at rows place).lct ≤ℤ e
  pub load : load rows s e ≡ load_by (drop place rows) e

first_of : (rows : List Row) (s e : ℤ) → IsByEst rows → (i : ℕ) → i < length rows → (row_at rows i).est ≡ s → (row_at rows i).lct ≤ℤ e → FirstOf rows s e
first_of [] s e by_est i within est lct = absurd (omega (arith, within))
first_of (r ∷ rows) s e by_est i within est lct =
    by_test (counts s e r) refl (first_of rows s e (λ a b low high. by_est (suc a) (suc b) (omega (arith, low)) (omega (arith, high))))
  where
    from : (j : ℕ) → j < length (r ∷ rows) → r.est ≤ℤ (row_at (r ∷ rows) j).est
    from j in_rows = by_est 0 j (omega arith) in_rows

    later : ((j : ℕ) → j < length rows → (row_at rows j).est ≡ s → (row_at rows j).lct ≤ℤ e → FirstOf rows s e) → (j : ℕ) → j < length (r ∷ rows) → (row_at (r ∷ rows) j).est ≡ s → (row_at (r ∷ rows) j).lct ≤ℤ e → counts s e r ≡ false → FirstOf (r ∷ rows) s e
    later behind zero in_rows starts_at ends out = absurd (true≢false (sym (and_from _ _ (le_true s r.est (equal _ _ (sym starts_at))) (le_true r.lct e ends)) ∙ out))
      where
        equal : (a b : ℤ) → a ≡ b → a ≤ℤ b
        equal a b h = omega (arith, ints, h)
    later behind (suc j) in_rows starts_at ends out =
        let rest = behind j (omega (arith, in_rows)) starts_at ends in
        record {
          place = suc rest.place;
          within = omega (arith, rest.within);
          est = rest.est;
          lct = rest.lct;
          load = none _ _ (ap (λ b. if b then r.energy else pos 0) out) ∙ rest.load;
        }
      where
        none : (a b : ℤ) → a ≡ pos 0 → (a +ℤ b) ≡ b
        none a b h = omega (arith, ints, h)

    by_test : (b : Bool) → counts s e r ≡ b → ((j : ℕ) → j < length rows → (row_at rows j).est ≡ s → (row_at rows j).lct ≤ℤ e → FirstOf rows s e) → FirstOf (r ∷ rows) s e
    by_test true is behind =
        let two = and_parts (int_le s r.est) (int_le r.lct e) is in
        let low = le_holds s r.est two.0 in
        record {
          place = 0;
          within = omega arith;
          est = same r.est s (row_at (r ∷ rows) i).est low (from i within) est;
          lct = le_holds r.lct e two.1;
          load = all_counted s e (r ∷ rows) (λ j in_rows. chain s r.est _ low (from j in_rows));
        }
      where
        same : (a s z : ℤ) → s ≤ℤ a → a ≤ℤ z → z ≡ s → a ≡ s
        same a s z h k l = omega (arith, ints, h, k, l)

        chain : (a b c : ℤ) → a ≤ℤ b → b ≤ℤ c → a ≤ℤ c
        chain a b c h k = omega (arith, ints, h, k)
    by_test false out behind = later behind i within est lct out

energies : (rows : List Row) → AreRows rows → (j : ℕ) → j < length rows → IsNearRow (row_at rows j)
energies rows are j within = are.near j no_row within

less : (a b : ℤ) → int_lt a b ≡ true → a <ℤ b
less a b h = grind (arith, ints, h)

less_true : (a b : ℤ) → a <ℤ b → int_lt a b ≡ true
less_true a b h = grind (arith, ints, h)

sum_is : (rows : List Row) (c end : ℤ) (k : ℕ) (sum new : ℤ) → k + 1 ≤ length rows → Summed rows c end (k + 1) sum → new ≡ sum +ℤ energy_by end (row_at rows k) → new ≡ load_by (drop k rows) end
sum_is rows c end k sum new within summed is = turned sum new _ _ is summed.load ∙ sym (at_drop_more (λ rs. load_by rs end) rows k no_row (omega (arith, within)))
  where
    turned : (sum new e rest : ℤ) → new ≡ sum +ℤ e → sum ≡ rest → new ≡ e +ℤ rest
    turned sum new e rest h l = omega (arith, ints, h, l)

energy_range : (end : ℤ) (r : Row) → IsNearRow r → (pos 0 ≤ℤ energy_by end r) × (energy_by end r ≤ℤ pos 1000000000000000)
energy_range end r near = by_test (int_le r.lct end)
  where
    by_test : (b : Bool) → (pos 0 ≤ℤ (if b then r.energy else pos 0)) × ((if b then r.energy else pos 0) ≤ℤ pos 1000000000000000)
    by_test true = (near.energy_from, near.energy_to)
    by_test false = (omega (arith, ints), omega (arith, ints))

pub summed_more : (rows : List Row) (c end : ℤ) (k : ℕ) (sum new : ℤ) → AreRows rows → k + 1 ≤ length rows → Summed rows c end (k + 1) sum → new ≡ sum +ℤ energy_by end (row_at rows k) → starts c end new (row_at rows k) ≡ false → Summed rows c end k new
summed_more rows c end k sum new are within summed is fails =
    let range = energy_range end (row_at rows k) (energies rows are k (omega (arith, within))) in
    let load = sum_is rows c end k sum new within summed is in
    record {
      within = omega (arith, within);
      load = load;
      none = λ j low inside. elim (cases_eq j k) [
        | inl same ↦ subst (λ i. starts c end (load_by (drop i rows) end) (row_at rows i) ≡ false) (sym same) (ap (λ z. starts c end z (row_at rows k)) (sym load) ∙ fails)
        | inr other ↦ summed.none j (omega (arith, low, other)) inside
      ];
      low = down sum new _ is summed.low range.0;
      high = up (length rows) k sum new _ within is summed.high range.1;
    }
  where
    down : (a b e : ℤ) → b ≡ a +ℤ e → pos 0 ≤ℤ a → pos 0 ≤ℤ e → pos 0 ≤ℤ b
    down a b e h l i = omega (arith, ints, h, l, i)

    up : (n k : ℕ) (a b e : ℤ) → k + 1 ≤ n → b ≡ a +ℤ e → a ≤ℤ pos (1000000000000000 * (n - (k + 1))) → e ≤ℤ pos 1000000000000000 → b ≤ℤ pos (1000000000000000 * (n - k))
    up n k a b e h i l t = omega (arith, ints, h, i, l, t)

pub start_found : (rows : List Row) (c end : ℤ) (k : ℕ) (sum new est : ℤ) → AreRows rows → IsByEst rows → k + 1 ≤ length rows → Summed rows c end (k + 1) sum → new ≡ sum +ℤ energy_by end (row_at rows k) → starts c end new (row_at rows k) ≡ true → est ≡ (row_at rows k).est
    → GivesStart rows c end (Some est)
start_found rows c end k sum new est are by_est within summed is starts_here est_is =
    let r = row_at rows k in
    let two = and_parts (int_le r.lct end) (int_lt (c *ℤ (end -ℤ r.est)) new) starts_here in
    let inside : k < length rows = omega (arith, within) in
    let below = last_below r.est end rows k (λ j in_rows. (energies rows are j in_rows).energy_from) (λ j low in_rows. by_est k j low in_rows) in
    subst (λ z. IsOver rows c z end) (sym est_is) (record {
      row = r;
      there = Contains-get_or rows k no_row inside;
      starts = refl;
      ends = le_holds r.lct end two.0;
      over = chain _ new _ _ (less _ _ two.1) (sum_is rows c end k sum new within summed is) below;
    })
  where
    chain : (a b c d : ℤ) → a <ℤ b → b ≡ c → c ≤ℤ d → a <ℤ d
    chain a b c d h i j = omega (arith, ints, h, i, j)

pub no_start : (rows : List Row) (c end sum : ℤ) → IsByEst rows → Summed rows c end 0 sum → GivesStart rows c end None
no_start rows c end sum by_est summed start over =
    let i = over.there.0 in
    let row : row_at rows i ≡ over.row = get_or_default rows i no_row over.row over.there.1 ∙ over.there.2 in
    let first = first_of rows start end by_est i over.there.1 (ap (λ (r : Row). r.est) row ∙ over.starts) (subst (λ (r : Row). r.lct ≤ℤ end) (sym row) over.ends) in
    let above : (c *ℤ (end -ℤ (row_at rows first.place).est)) <ℤ load_by (drop first.place rows) end = turned (c *ℤ (end -ℤ start)) _ (load rows start end) _ (ap (λ z. c *ℤ (end -ℤ z)) first.est) first.load over.over in
    true≢false (sym (and_from _ _ (le_true _ _ first.lct) (less_true _ _ above)) ∙ summed.none first.place (omega arith) first.within)
  where
    turned : (a b l m : ℤ) → b ≡ a → l ≡ m → a <ℤ l → b <ℤ m
    turned a b l m h i j = omega (arith, ints, h, i, j)

-- the same in the forms in which the loop has them
pub start_found_as : (rows : List Row) (c d end stop : ℤ) (n k : ℕ) (sum new est : ℤ) → AreRows rows → IsByEst rows → 0 < n → k ≡ n - 1 → Summed rows d stop n sum → d ≡ c → stop ≡ end → new ≡ sum +ℤ energy_by end (row_at rows k) → starts c end new (row_at rows k) ≡ true
    → est ≡ (row_at rows k).est → GivesStart rows c end (Some est)
start_found_as rows c d end stop n k sum new est are by_est some before summed same stopped is here est_is =
    let next : n ≡ k + 1 = omega (arith, some, before) in
    start_found rows c end k sum new est are by_est (subst (λ j. j ≤ length rows) next summed.within) (subst (λ j. Summed rows c end j sum) next (subst (λ z. Summed rows z end n sum) same (subst (λ z. Summed rows d z n sum) stopped summed))) is here est_is

pub summed_more_as : (rows : List Row) (c d end stop : ℤ) (n k : ℕ) (sum new z : ℤ) → AreRows rows → 0 < n → k ≡ n - 1 → Summed rows d stop n sum → d ≡ c → stop ≡ end → new ≡ sum +ℤ energy_by end (row_at rows k) → starts c end new (row_at rows k) ≡ false → z ≡ new
    → Summed rows d stop k z
summed_more_as rows c d end stop n k sum new z are some before summed same stopped is fails kept =
    let next : n ≡ k + 1 = omega (arith, some, before) in
    let more = summed_more rows c end k sum new are (subst (λ j. j ≤ length rows) next summed.within) (subst (λ j. Summed rows c end j sum) next (subst (λ y. Summed rows y end n sum) same (subst (λ y. Summed rows d y n sum) stopped summed))) is fails in
    subst (λ y. Summed rows d stop k y) (sym kept) (subst (λ y. Summed rows d y k new) (sym stopped) (subst (λ y. Summed rows y end k new) (sym same) more))

pub no_start_as : (rows : List Row) (c d end stop : ℤ) (n : ℕ) (sum : ℤ) → IsByEst rows → Summed rows d stop n sum → d ≡ c → stop ≡ end → n ≡ 0 → GivesStart rows c end None
no_start_as rows c d end stop n sum by_est summed same stopped none = no_start rows c end sum by_est (subst (λ j. Summed rows c end j sum) none (subst (λ y. Summed rows y end n sum) same (subst (λ y. Summed rows d y n sum) stopped summed)))
