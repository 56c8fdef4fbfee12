-- The steps of the scan for the set that completes latest.
use Rattle.std.specs.Prelude.{◌≡◌, ℕ, suc, ◌+◌, ◌-◌, ◌<◌, ◌≤◌, ℤ, pos, ◌+ℤ◌, ◌≤ℤ◌, Bool, true, false, int_le, cond, List, length, Option, Some, None, refl}
use Rattle.std.proofs.Common.{arith, sym, subst, ap, ◌∙◌, inl, inr}
use Rattle.std.proofs.lemmas.Int.{ints}
use Rattle.std.proofs.lemmas.Bool.{cases_eq, both_ways}
use Rattle.task_sets.specs.laws.Sums.{pick, load}
use Rattle.task_sets.specs.laws.Ects.{up_from, le_holds}
use Rattle.theta_passes.specs.declared.rows.Row.{Row}
use Rattle.theta_passes.specs.declared.parts.Top.{Top}
use Rattle.theta_passes.specs.declared.parts.Scan.{Scan}
use Rattle.theta_passes.specs.code.Rows.{row_at, IsNearRow}
use Rattle.theta_passes.specs.code.Parts.{ends_from, GivesTop, better_top, scan_with, IsScanned}
use Rattle.theta_passes.proofs.scans.Scanning.{load_step}

pub scan_start : (rows : List Row) (t : ℕ → Bool) → IsScanned rows t (length rows) (record { sum = pos 0; top = None })
scan_start rows t =
    let none : length rows - length rows ≡ 0 = omega arith in
    record {
      sum = sym (ap (λ n. load (λ y. (row_at rows y).p) t (up_from (length rows) n)) none);
      low = omega (arith, ints);
      high = omega (arith, ints);
      top = λ y from below on. omega (arith, from, below);
    }

next_load : (rows : List Row) (t : ℕ → Bool) (k : ℕ) (b : Bool) → k < length rows → t k ≡ b
    → load (λ y. (row_at rows y).p) t (up_from k (length rows - k)) ≡ pick b (row_at rows k).p +ℤ load (λ y. (row_at rows y).p) t (up_from (k + 1) (length rows - (k + 1)))
next_load rows t k b within is = load_step (λ y. (row_at rows y).p) t k (length rows) within ∙ ap (λ c. pick c (row_at rows k).p +ℤ load (λ y. (row_at rows y).p) t (up_from (k + 1) (length rows - (k + 1)))) is

scan_passed : (rows : List Row) (t : ℕ → Bool) (k : ℕ) (s : Scan) → k < length rows → t k ≡ false → IsScanned rows t (k + 1) s → IsScanned rows t k s
scan_passed rows t k s within off scanned =
    let step = next_load rows t k false within off in
    let sum = scanned.sum in
    record {
      sum = omega (arith, ints, step, sum);
      low = scanned.low;
      high = let h = scanned.high in let more : length rows - k ≡ suc (length rows - (k + 1)) = omega (arith, within) in omega (arith, ints, h, more);
      top = gives s.top scanned.top;
    }
  where
    later : (y : ℕ) → k ≤ y → t y ≡ true → k + 1 ≤ y
    later y from on = elim (cases_eq y k) [
      | inl same ↦ absurd (both_ways (t k) off (subst (λ j. t j ≡ true) same on))
      | inr other ↦ omega (arith, from, other)
    ]

    gives : (o : Option Top) → GivesTop rows t (k + 1) o → GivesTop rows t k o
    gives None none = λ y from below on. none y (later y from on) below on
    gives (Some b) top = record { on = top.on; within = top.within; value = top.value; most = λ y from below on. top.most y (later y from on) below on }

pub scan_added : (rows : List Row) (t : ℕ → Bool) (k : ℕ) (s : Scan) (sum value : ℤ) → IsNearRow (row_at rows k) → k < length rows → t k ≡ true → sum ≡ s.sum +ℤ (row_at rows k).p → value ≡ (row_at rows k).est +ℤ sum → IsScanned rows t (k + 1) s
    → IsScanned rows t k (record { sum = sum; top = better_top s.top k value })
scan_added rows t k s sum value near within on new is scanned = record {
  sum = whole;
  low = let h = scanned.low in omega (arith, ints, h, new, near.p_from);
  high = let h = scanned.high in let more : length rows - k ≡ suc (length rows - (k + 1)) = omega (arith, within) in omega (arith, ints, h, more, new, near.p_to);
  top = gives s.top scanned.top;
}
  where
    whole : sum ≡ load (λ y. (row_at rows y).p) t (up_from k (length rows - k))
    whole = let step = next_load rows t k true within on in let before = scanned.sum in omega (arith, ints, step, before, new)

    mine : value ≡ ends_from rows t k
    mine = let w = whole in omega (arith, ints, w, is)

    here : (least : ℤ) → value ≤ℤ least → (y : ℕ) → k ≤ y → y < length rows → t y ≡ true → ((z : ℕ) → k + 1 ≤ z → z < length rows → t z ≡ true → ends_from rows t z ≤ℤ least) → ends_from rows t y ≤ℤ least
    here least high y from below one rest = elim (cases_eq y k) [
      | inl same ↦ subst (λ j. ends_from rows t j ≤ℤ least) (sym same) (subst (λ v. v ≤ℤ least) mine high)
      | inr other ↦ rest y (omega (arith, from, other)) below one
    ]

    itself : value ≤ℤ value
    itself = omega (arith, ints)

    gives : (o : Option Top) → GivesTop rows t (k + 1) o → GivesTop rows t k (better_top o k value)
    gives None none = record { on = on; within = within; value = mine; most = λ y from below one. here value itself y from below one (λ z after under other. absurd (none z after under other)) }
    gives (Some b) top = chosen (int_le value b.value) refl
      where
        chosen : (c : Bool) → int_le value b.value ≡ c → GivesTop rows t k (cond c (Some b) (Some (record { place = k; value = value })))
        chosen true less = record { on = top.on; within = top.within; value = top.value; most = λ y from below one. here b.value (le_holds value b.value less) y from below one top.most }
        chosen false more = record { on = on; within = within; value = mine; most = λ y from below one. here value itself y from below one (λ z after under other. let h = top.most z after under other in let up : b.value ≤ℤ value = grind (arith, ints) in omega (arith, ints, h, up)) }

scan_more : (rows : List Row) (t : ℕ → Bool) (k : ℕ) (s r : Scan) → ((j : ℕ) → IsNearRow (row_at rows j)) → k < length rows → t k ≡ true → r ≡ scan_with s (row_at rows k) k → IsScanned rows t (k + 1) s → IsScanned rows t k r
scan_more rows t k s r near within on is scanned = subst (IsScanned rows t k) (sym is) (scan_added rows t k s (s.sum +ℤ (row_at rows k).p) ((row_at rows k).est +ℤ (s.sum +ℤ (row_at rows k).p)) (near k) within on refl refl scanned)

pub sum_small : (rows : List Row) (t : ℕ → Bool) (k : ℕ) (s : Scan) → length rows ≤ 500 → IsScanned rows t k s → s.sum ≤ℤ pos 1000000000000
sum_small rows t k s few scanned = let h = scanned.high in let most : length rows - k ≤ 500 = omega (arith, few) in omega (arith, ints, h, most)

abbrev pub scan_of : Option Top → ℤ → Scan
scan_of top sum = record { sum = sum; top = top }

-- the scan with a member, if it is taken
pub one_added : (b : Bool) (s : Scan) (row : Row) (k : ℕ) (n sum value : ℤ) (top : Option Top) → n ≡ pick b row.p → sum ≡ s.sum +ℤ n → value ≡ row.est +ℤ sum → top ≡ cond b (better_top s.top k value) s.top → scan_of top sum ≡ cond b (scan_with s row k) s
one_added true s row k n sum value top one two three four = rw (four, three, two, one) refl
one_added false s row k n sum value top one two three four = let same : sum ≡ s.sum = (let h = two in let z : n ≡ pos 0 = one in omega (arith, ints, h, z)) in rw (four, same) refl

pub scan_taken : (rows : List Row) (t : ℕ → Bool) (k : ℕ) (b : Bool) (s r : Scan) → ((j : ℕ) → IsNearRow (row_at rows j)) → k < length rows → b ≡ t k → r ≡ cond b (scan_with s (row_at rows k) k) s → IsScanned rows t (k + 1) s → IsScanned rows t k r
scan_taken rows t k true s r near within on is scanned = scan_more rows t k s r near within (sym on) is scanned
scan_taken rows t k false s r near within off is scanned = subst (IsScanned rows t k) (sym is) (scan_passed rows t k s within (sym off) scanned)
