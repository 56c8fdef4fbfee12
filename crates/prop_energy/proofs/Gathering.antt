-- The rows of parts, one by one and in sums.
use Rattle.std.specs.Prelude.{◌≡◌, ℕ, zero, suc, ◌+◌, ◌<◌, ◌≤◌, ℤ, pos, ◌+ℤ◌, Bool, true, false, ◌++◌, if◌then◌else◌, List, [], ◌∷◌, length, drop, Option, Some, None}
use Rattle.std.specs.List.{Contains}
use Rattle.std.proofs.Common.{refl, sym, ap, ◌∙◌, arith, get_or}
use Rattle.std.proofs.lemmas.Int.{ints}
use Rattle.std.proofs.lemmas.Bool.{true≢false}
use Rattle.std.proofs.lemmas.List.{append_assoc, append-nil}
use Rattle.sched_model.specs.declared.types.Part.{Part}
use Rattle.region.specs.Cells.{Region}
use Rattle.task_sets.specs.laws.Sums.{load as load_by, pick}
use Rattle.task_sets.specs.laws.Ects.{up_from}
use Rattle.refute_energy.specs.Energy.{is_bar, bar_of, is_bar_at, bar_at}
use Rattle.energy_pass.specs.declared.rows.Row.{Row}
use Rattle.energy_pass.specs.code.Rows.{counts, load}
use Rattle.prop_energy.specs.code.Rows.{row_by, row_of, with_row, rows_of, counts_row, is_in_at}

-- the loop that gathers them
step : (r : Region) (is : List Part) (n : ℕ) (d : Part) → n < length is → rows_of r (drop n is) ≡ with_row (row_of r (get_or is n d).shape) (rows_of r (drop (n + 1) is))
step r [] n d within = absurd (omega (arith, within))
step r (i ∷ is) zero d within = refl
step r (i ∷ is) (suc n) d within = step r is n d (omega (arith, within)) ∙ ap (λ k. with_row (row_of r (get_or is n d).shape) (rows_of r (drop k (i ∷ is)))) (next n)
  where
    next : (n : ℕ) → suc (n + 1) ≡ suc n + 1
    next n = omega arith

pub one_pushed : (r : Region) (is : List Part) (rows : List Row) (n : ℕ) (d : Part) (row : Row) → n < length is → row_of r (get_or is n d).shape ≡ Some row → (rows ++ rows_of r (drop n is)) ≡ rows_of r is → ((rows ++ row ∷ []) ++ rows_of r (drop (n + 1) is)) ≡ rows_of r is
one_pushed r is rows n d row within there before =
    append_assoc rows (row ∷ []) (rows_of r (drop (n + 1) is)) ∙ sym (ap (λ ys. rows ++ ys) (step r is n d within ∙ ap (λ o. with_row o (rows_of r (drop (n + 1) is))) there)) ∙ before

pub one_passed : (r : Region) (is : List Part) (rows : List Row) (n : ℕ) (d : Part) → n < length is → row_of r (get_or is n d).shape ≡ None → (rows ++ rows_of r (drop n is)) ≡ rows_of r is → (rows ++ rows_of r (drop (n + 1) is)) ≡ rows_of r is
one_passed r is rows n d within away before = sym (ap (λ ys. rows ++ ys) (step r is n d within ∙ ap (λ o. with_row o (rows_of r (drop (n + 1) is))) away)) ∙ before

pub all_gathered : (r : Region) (is : List Part) (rows : List Row) (n : ℕ) → length is ≤ n → (rows ++ rows_of r (drop n is)) ≡ rows_of r is → rows ≡ rows_of r is
all_gathered r is rows n all before = sym (append-nil rows) ∙ (ap (λ ys. rows ++ ys) (sym (none r is n all)) ∙ before)
  where
    none : (r : Region) (is : List Part) (n : ℕ) → length is ≤ n → rows_of r (drop n is) ≡ []
    none r [] zero h = refl
    none r [] (suc n) h = refl
    none r (i ∷ is) zero h = absurd (omega (arith, h))
    none r (i ∷ is) (suc n) h = none r is n (omega (arith, h))

-- each row is that of a bar
pub record IsRowOf (r : Region) (is : List Part) (row : Row) : Type 0 where
  pub place : ℕ
  pub bar : is_bar_at r is place ≡ true
  pub same : row ≡ row_by (bar_at r is place)

later : (r : Region) (i : Part) (is : List Part) (row : Row) → IsRowOf r is row → IsRowOf r (i ∷ is) row
later r i is row h = record { place = suc h.place; bar = h.bar; same = h.same }

pub row_from : (r : Region) (is : List Part) (j : ℕ) (d : Row) → j < length (rows_of r is) → IsRowOf r is (get_or (rows_of r is) j d)
row_from r [] j d within = absurd (omega (arith, within))
row_from r (i ∷ is) j d within = by_test (is_bar r i.shape) refl j (λ k h. row_from r is k d h) within
  where
    by_test : (b : Bool) → is_bar r i.shape ≡ b → (j : ℕ) → ((k : ℕ) → k < length (rows_of r is) → IsRowOf r is (get_or (rows_of r is) k d))
        → j < length (with_row (if b then Some (row_by (bar_of r i.shape)) else None) (rows_of r is)) → IsRowOf r (i ∷ is) (get_or (with_row (if b then Some (row_by (bar_of r i.shape)) else None) (rows_of r is)) j d)
    by_test true is_one zero rest h = record { place = 0; bar = is_one; same = refl }
    by_test true is_one (suc j) rest h = later r i is _ (rest j (omega (arith, h)))
    by_test false none j rest h = later r i is _ (rest j h)

-- and each bar has a row
pub bar_row : (r : Region) (is : List Part) (k : ℕ) → is_bar_at r is k ≡ true → Contains (rows_of r is) (row_by (bar_at r is k))
bar_row r [] k bar = absurd (true≢false (sym bar))
bar_row r (i ∷ is) zero bar = first (is_bar r i.shape) bar
  where
    first : (b : Bool) → b ≡ true → Contains (with_row (if b then Some (row_by (bar_of r i.shape)) else None) (rows_of r is)) (row_by (bar_of r i.shape))
    first true is_one = (0, omega arith, refl)
    first false none = absurd (true≢false (sym none))
bar_row r (i ∷ is) (suc k) bar = behind (is_bar r i.shape) (bar_row r is k bar)
  where
    behind : (b : Bool) → Contains (rows_of r is) (row_by (bar_at r is k)) → Contains (with_row (if b then Some (row_by (bar_of r i.shape)) else None) (rows_of r is)) (row_by (bar_at r is k))
    behind true there = (suc there.0, omega (arith, there.1), there.2)
    behind false there = there

pub fewer : (r : Region) (is : List Part) → length (rows_of r is) ≤ length is
fewer r [] = omega arith
fewer r (i ∷ is) = by_row (row_of r i.shape) (fewer r is)
  where
    by_row : (o : Option Row) → length (rows_of r is) ≤ length is → length (with_row o (rows_of r is)) ≤ length (i ∷ is)
    by_row None h = omega (arith, h)
    by_row (Some row) h = omega (arith, h)

plain : (z : ℤ) → (pos 0 +ℤ z) ≡ z
plain z = omega (arith, ints)

-- the load of the rows is the energy of the parts of the cut
pub load_places : (r : Region) (is : List Part) (start end : ℤ) (b : ℕ) (p : ℕ → ℤ) (t : ℕ → Bool) → ((i : ℕ) → p (b + i) ≡ (bar_at r is i).p) → ((i : ℕ) → t (b + i) ≡ is_in_at r is start end i)
    → load_by p t (up_from b (length is)) ≡ load (rows_of r is) start end
load_places r [] start end b p t sizes tests = refl
load_places r (i ∷ is) start end b p t sizes tests =
    both (pick (t b) (p b)) _ _ (one (is_bar r i.shape) refl) (load_places r is start end (suc b) p t (λ j. ap p (next b j) ∙ sizes (suc j)) (λ j. ap t (next b j) ∙ tests (suc j)))
  where
    here : (b : ℕ) → b ≡ b + 0
    here b = omega arith

    next : (b j : ℕ) → suc b + j ≡ b + suc j
    next b j = omega arith

    row : Row
    row = row_by (bar_of r i.shape)

    both : (x : ℤ) (o : ℤ) (z : ℤ) → x +ℤ z ≡ o → load_by p t (up_from (suc b) (length is)) ≡ z → x +ℤ load_by p t (up_from (suc b) (length is)) ≡ o
    both x o z h k = ap (λ y. x +ℤ y) k ∙ h

    picked : (c : Bool) (z : ℤ) → pick c z ≡ (if c then z else pos 0)
    picked true z = refl
    picked false z = refl

    one : (c : Bool) → is_bar r i.shape ≡ c → (pick (t b) (p b) +ℤ load (rows_of r is) start end) ≡ load (with_row (row_of r i.shape) (rows_of r is)) start end
    one true bar =
        let in_it : row_of r i.shape ≡ Some row = ap (λ c. if c then Some row else None) bar in
        let test : t b ≡ counts start end row = ap t (here b) ∙ (tests 0 ∙ ap (counts_row start end) in_it) in
        let size : p b ≡ row.energy = ap p (here b) ∙ sizes 0 in
        ap (λ z. z +ℤ load (rows_of r is) start end) (ap (λ c. pick c (p b)) test ∙ (ap (pick (counts start end row)) size ∙ picked (counts start end row) row.energy))
        ∙ ap (λ o. load (with_row o (rows_of r is)) start end) (sym in_it)
    one false none =
        let out : row_of r i.shape ≡ None = ap (λ c. if c then Some row else None) none in
        let test : t b ≡ false = ap t (here b) ∙ (tests 0 ∙ ap (counts_row start end) out) in
        ap (λ z. z +ℤ load (rows_of r is) start end) (ap (λ c. pick c (p b)) test) ∙ (plain (load (rows_of r is) start end) ∙ ap (λ o. load (with_row o (rows_of r is)) start end) (sym out))
