-- Ranges, types and cells come back from their trees, and their numbers pass the tests of a text.
use Rattle.std.proofs.Common.{◌≡◌, ℕ, zero, suc, ◌*◌, ℤ, pos, Bool, true, false, not, List, [], ◌∷◌, ◌++◌, map, flat_map, take, drop, length, nat_le, nat_eq, int_le, refl, ap, ◌∙◌, arith}
use Rattle.std.specs.List.{list_all}
use Rattle.std.proofs.lemmas.Int.{ints}
use Rattle.std.proofs.lemmas.List.{length-map, length-take, length-drop, take-append-drop}
use Rattle.std.proofs.lemmas.Bool.{and_parts, and_from, or_from, not_from_true}
use Rattle.sched_model.specs.Valid.{is_moment, is_span_of_moments, is_amount}
use Rattle.sched_model.specs.laws.Small.{moment_small, amount_small}
use Rattle.cpo_text.specs.declared.tree.Int.{Int}
use Rattle.cpo_elab.specs.Literals.{int_of, range_of}
use Rattle.cpo_elab.specs.Elaborated.{types_in}
use Rattle.cpo_elab.specs.Judged.{is_outside, is_reversed, is_negative, is_large}
use Rattle.cpo_elab.specs.Held.{some_int, some_in_rows}
use Rattle.read_back.specs.Trees.{int_tree, range_tree, cell_rows}
use Rattle.read_back.proofs.Truth.{all_take, all_drop, is_same}
use Rattle.read_back.proofs.Numbers.{size_back, int_back, span, type_amount, type_literal}

-- amounts and ranges

pub amount_sign : (z : ℤ) → is_amount z ≡ true → is_negative z ≡ false
amount_sign z h = grind (arith, ints)

pub amount_size : (z : ℤ) → is_amount z ≡ true → is_large z ≡ false
amount_size z h = grind (arith, ints)

pub is_ordered : (lo hi : ℤ) → int_le lo hi ≡ true → is_reversed (lo, hi) ≡ false
is_ordered lo hi h = grind (arith, ints)

pub span_back : (lo hi : ℤ) → is_span_of_moments lo hi ≡ true → range_of (range_tree lo hi) ≡ (lo, hi)
span_back lo hi h =
    let parts = span lo hi h in
    let from = int_back lo (moment_small lo parts.0) in
    let to = int_back hi (moment_small hi parts.1) in
    λ i. (from i, to i)

pub span_inside : (lo hi : ℤ) → is_span_of_moments lo hi ≡ true → is_outside (lo, hi) ≡ false
span_inside lo hi h = let parts = span lo hi h in or_from (not (is_moment lo)) (not (is_moment hi)) (not_from_true (is_moment lo) parts.0) (not_from_true (is_moment hi) parts.1)

pub span_ordered : (lo hi : ℤ) → is_span_of_moments lo hi ≡ true → is_reversed (lo, hi) ≡ false
span_ordered lo hi h = is_ordered lo hi (span lo hi h).2

-- types

abbrev pub type_trees : List ℕ → List Int
type_trees ts = map (λ t. int_tree (pos t)) ts

pub types_back : (ts : List ℕ) → list_all (λ t. nat_le t 1000000) ts ≡ true → types_in (type_trees ts) ≡ ts
types_back [] all = refl
types_back (t ∷ ts) all =
    let parts = and_parts (nat_le t 1000000) _ all in
    let first = size_back t (type_literal t parts.0) in
    let rest = types_back ts parts.1 in
    λ i. first i ∷ rest i

pub types_pass : (test : ℤ → Bool) → ((z : ℤ) → is_amount z ≡ true → test z ≡ false) → (ts : List ℕ) → list_all (λ t. nat_le t 1000000) ts ≡ true → some_int test (type_trees ts) ≡ false
types_pass test weak [] all = refl
types_pass test weak (t ∷ ts) all =
    let parts = and_parts (nat_le t 1000000) _ all in
    let small = type_amount t parts.0 in
    or_from (test (int_of (int_tree (pos t)))) _ (ap test (int_back (pos t) (amount_small (pos t) small)) ∙ weak (pos t) small) (types_pass test weak ts parts.1)

-- rows of cells

cells_back : (zs : List ℤ) → list_all is_amount zs ≡ true → map int_of (map int_tree zs) ≡ zs
cells_back [] all = refl
cells_back (z ∷ zs) all =
    let parts = and_parts (is_amount z) _ all in
    let first = int_back z (amount_small z parts.0) in
    let rest = cells_back zs parts.1 in
    λ i. first i ∷ rest i

cells_pass : (test : ℤ → Bool) → ((z : ℤ) → is_amount z ≡ true → test z ≡ false) → (zs : List ℤ) → list_all is_amount zs ≡ true → some_int test (map int_tree zs) ≡ false
cells_pass test weak [] all = refl
cells_pass test weak (z ∷ zs) all =
    let parts = and_parts (is_amount z) _ all in
    or_from (test (int_of (int_tree z))) _ (ap test (int_back z (amount_small z parts.0)) ∙ weak z parts.0) (cells_pass test weak zs parts.1)

abbrev pub row_trees : ℕ → ℕ → List ℤ → List (List Int)
row_trees k n zs = map (map int_tree) (cell_rows k n zs)

none_left : (zs : List ℤ) (n : ℕ) → length zs ≡ 0 * n → [] ≡ zs
none_left [] n h = refl
none_left (z ∷ zs) n h = absurd (omega arith)

left_over : (k n : ℕ) (zs : List ℤ) → length zs ≡ suc k * n → length (drop n zs) ≡ k * n
left_over k n zs h = omega (arith, length-drop n zs, h)

pub rows_back : (k n : ℕ) (zs : List ℤ) → length zs ≡ k * n → list_all is_amount zs ≡ true → flat_map (map int_of) (row_trees k n zs) ≡ zs
rows_back zero n zs size all = none_left zs n size
rows_back (suc k) n zs size all =
    let first = cells_back (take n zs) (all_take is_amount n zs all) in
    let rest = rows_back k n (drop n zs) (left_over k n zs size) (all_drop is_amount n zs all) in
    (λ i. first i ++ rest i) ∙ take-append-drop n zs

pub row_number : (k n : ℕ) (zs : List ℤ) → length (row_trees k n zs) ≡ k
row_number zero n zs = refl
row_number (suc k) n zs = ap suc (row_number k n (drop n zs))

row_size : (k n : ℕ) (zs : List ℤ) → length zs ≡ suc k * n → length (map int_tree (take n zs)) ≡ n
row_size k n zs h = length-map (take n zs) int_tree ∙ taken k n zs h where
  taken : (k n : ℕ) (zs : List ℤ) → length zs ≡ suc k * n → length (take n zs) ≡ n
  taken k n zs h = omega (arith, length-take n zs, h)

pub rows_square : (k n : ℕ) (zs : List ℤ) → length zs ≡ k * n → list_all (λ row. nat_eq (length row) n) (row_trees k n zs) ≡ true
rows_square zero n zs size = refl
rows_square (suc k) n zs size =
    and_from _ _ (is_same (length (map int_tree (take n zs))) n (row_size k n zs size)) (rows_square k n (drop n zs) (left_over k n zs size))

pub rows_pass : (test : ℤ → Bool) → ((z : ℤ) → is_amount z ≡ true → test z ≡ false) → (k n : ℕ) (zs : List ℤ) → list_all is_amount zs ≡ true → some_in_rows test (row_trees k n zs) ≡ false
rows_pass test weak zero n zs all = refl
rows_pass test weak (suc k) n zs all =
    or_from (some_int test (map int_tree (take n zs))) _ (cells_pass test weak (take n zs) (all_take is_amount n zs all)) (rows_pass test weak k n (drop n zs) (all_drop is_amount n zs all))
