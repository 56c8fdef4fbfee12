-- Sequences as rows: where their cells begin, and the places of their members.
use Rattle.std.specs.Prelude.{◌≡◌, ℕ, zero, suc, ◌+◌, ◌*◌, ◌-◌, ◌/◌, ◌<◌, ◌≤◌, Bool, true, false, not, List, [], ◌∷◌, ◌++◌, map, take, drop, length, nat_eq, slice_index_or, if◌then◌else◌}
use Rattle.std.proofs.Common.{refl, sym, ap, subst, ◌∙◌, arith, get_or, set}
use Rattle.std.proofs.lemmas.Nat.{mul-le}
use Rattle.std.proofs.Math.ListN.{replicate}
use Rattle.std.proofs.Math.Seq.{drop-cons}
use Rattle.std.proofs.lemmas.List.{get_or-set_other, get_or-set_same}
use Rattle.std.proofs.lemmas.Bool.Decides.{nat_tests}
use Rattle.sched_base.specs.declared.ids.Itv.{Itv}
use Rattle.sched_model.specs.declared.types.SequenceDef.{SequenceDef}
use Rattle.sched_model.specs.Valid.{pair_count}
use Rattle.sched_model.specs.Data.{same}
use Rattle.region.specs.declared.frame.Row.{Row}
use Rattle.region.specs.Orders.{place_of}
use Rattle.region.specs.code.Flat.{IsRow, AreRows, pairs_before, pairs_in}
use Rattle.region.proofs.Places.{pairs_more}
use Rattle.region.specs.laws.OneSequence.{same_is}

twice : (j : ℕ) → 2 * pair_count j + j ≡ j * j
twice zero = refl
twice (suc n) = omega (arith, twice n)

pub triangle : (j : ℕ) → (j * j - j) / 2 ≡ pair_count j
triangle j = omega (arith, twice j)

pub few_pairs : (j : ℕ) → j ≤ 500 → pair_count j ≤ 125000
few_pairs j h = omega (arith, twice j, mul-le j j 500 500 h h)

pub rows_at : (first : ℕ) (rows : List Row) (p : ℕ) (d : Row) → AreRows first rows → p < length rows → IsRow (first + pairs_before (map (λ row. row.members) rows) p) (get_or rows p d)
rows_at first [] p d are h = absurd (omega (arith, h))
rows_at first (row ∷ rows) zero d are h = subst (λ n. IsRow n row) (none first) are.0
  where
    none : (n : ℕ) → n ≡ n + 0
    none n = omega arith
rows_at first (row ∷ rows) (suc p) d are h =
    subst (λ n. IsRow n (get_or rows p d)) (sum3 first (pair_count (length row.members)) (pairs_before (map (λ row. row.members) rows) p)) (rows_at (first + pair_count (length row.members)) rows p d are.1 (omega (arith, h)))
  where
    sum3 : (a b c : ℕ) → a + b + c ≡ a + (b + c)
    sum3 a b c = omega arith

-- the places of the members from a place on are noted
abbrev pub AreNoted : List ℕ → List Itv → ℕ → Type 0
AreNoted ps ms k = (x : Itv) → slice_index_or ps x.0 (length ms) ≡ k + place_of (drop k ms) x

pub noted_more : (ps : List ℕ) (ms : List Itv) (k : ℕ) (m : Itv) → k < length ms → m ≡ get_or ms k m → m.0 < length ps → AreNoted ps ms (suc k) → AreNoted (set ps m.0 k) ms k
noted_more ps ms k m within is room noted x =
    decided (same x m) refl ∙ ap (λ ds. k + place_of ds x) (sym (drop-cons ms k m within ∙ ap (λ z. z ∷ drop (suc k) ms) (sym is)))
  where
    differ : (i j : ℕ) → nat_eq i j ≡ false → i ≡ j → ⊥
    differ i j h e = grind (arith, nat_tests, h, e)

    next : (k p : ℕ) → suc k + p ≡ k + (1 + p)
    next k p = omega arith

    none : (k : ℕ) → k ≡ k + 0
    none k = omega arith

    decided : (b : Bool) → same x m ≡ b → get_or (set ps m.0 k) x.0 (length ms) ≡ k + (if not b then 1 + place_of (drop (suc k) ms) x else 0)
    decided true h = ap (λ z. get_or (set ps m.0 k) z.0 (length ms)) (same_is x m h) ∙ get_or-set_same ps m.0 k (length ms) room ∙ none k
    decided false h = get_or-set_other ps m.0 x.0 k (length ms) (differ x.0 m.0 h) ∙ noted x ∙ next k (place_of (drop (suc k) ms) x)

pub noted_all : (ps : List ℕ) (ms : List Itv) (k : ℕ) → k ≡ 0 → AreNoted ps ms k → (x : Itv) → slice_index_or ps x.0 (length ms) ≡ place_of ms x
noted_all ps ms k e noted x = noted x ∙ ap (λ n. n + place_of (drop n ms) x) e ∙ none (place_of ms x)
  where
    none : (k : ℕ) → 0 + k ≡ k
    none k = omega arith

pub blank : (n len : ℕ) (x : Itv) → slice_index_or (replicate n len) x.0 len ≡ len
blank n len x = at n x.0
  where
    at : (n k : ℕ) → slice_index_or (replicate n len) k len ≡ len
    at zero k = refl
    at (suc n) zero = refl
    at (suc n) (suc k) = at n k

-- one row more, behind the cells of those before it
pub rows_more : (first : ℕ) (rows : List Row) (row : Row) → AreRows first rows → IsRow (first + pairs_in (map (λ row. row.members) rows)) row → AreRows first (rows ++ row ∷ [])
rows_more first [] row are is = (subst (λ n. IsRow n row) (none first) is, tt)
  where
    none : (n : ℕ) → n + 0 ≡ n
    none n = omega arith
rows_more first (next ∷ rows) row are is =
    (are.0, rows_more (first + pair_count (length next.members)) rows row are.1 (subst (λ n. IsRow n row) (ap (λ n. first + n) (pairs_more next.members (map (λ row. row.members) rows)) ∙ sum3 first (pair_count (length next.members)) (pairs_in (map (λ row. row.members) rows))) is))
  where
    sum3 : (a b c : ℕ) → a + (b + c) ≡ a + b + c
    sum3 a b c = omega arith

pub members_more : (rows : List Row) (row : Row) → map (λ row. row.members) (rows ++ row ∷ []) ≡ map (λ row. row.members) rows ++ row.members ∷ []
members_more [] row = refl
members_more (next ∷ rows) row = ap (λ mss. next.members ∷ mss) (members_more rows row)

pairs_one : (mss : List (List Itv)) (ms : List Itv) → pairs_in (mss ++ ms ∷ []) ≡ pairs_in mss + pair_count (length ms)
pairs_one [] ms = pairs_more ms [] ∙ none (pair_count (length ms))
  where
    none : (n : ℕ) → n + 0 ≡ 0 + n
    none n = omega arith
pairs_one (next ∷ mss) ms = pairs_more next (mss ++ ms ∷ []) ∙ ap (λ n. pair_count (length next) + n) (pairs_one mss ms) ∙ sum3 (pair_count (length next)) (pairs_in mss) (pair_count (length ms)) ∙ ap (λ n. n + pair_count (length ms)) (sym (pairs_more next mss))
  where
    sum3 : (a b c : ℕ) → a + (b + c) ≡ a + b + c
    sum3 a b c = omega arith

pub pairs_with : (rows : List Row) (row : Row) → pairs_in (map (λ row. row.members) (rows ++ row ∷ [])) ≡ pairs_in (map (λ row. row.members) rows) + pair_count (length row.members)
pairs_with rows row = ap pairs_in (members_more rows row) ∙ pairs_one (map (λ row. row.members) rows) row.members

pub place_le : (ms : List Itv) (x : Itv) → place_of ms x ≤ length ms
place_le [] x = omega arith
place_le (y ∷ ys) x = decided (same x y) (place_le ys x)
  where
    decided : (b : Bool) → place_of ys x ≤ length ys → (if not b then 1 + place_of ys x else 0) ≤ length (y ∷ ys)
    decided true h = omega arith
    decided false h = omega (arith, h)

-- the members of one sequence more
pub taken_more : (ds : List SequenceDef) (n : ℕ) (d : SequenceDef) → n < length ds → get_or ds n d ≡ d → map (λ d. d.members) (take n ds) ++ d.members ∷ [] ≡ map (λ d. d.members) (take (n + 1) ds)
taken_more ds n d within is = more ds n within is ∙ ap (λ k. map (λ (d : SequenceDef). d.members) (take k ds)) (next n)
  where
    next : (n : ℕ) → suc n ≡ n + 1
    next n = omega arith

    more : (ds : List SequenceDef) (n : ℕ) → n < length ds → get_or ds n d ≡ d → map (λ d. d.members) (take n ds) ++ d.members ∷ [] ≡ map (λ d. d.members) (take (suc n) ds)
    more [] n within is = absurd (omega (arith, within))
    more (e ∷ ds) zero within is = ap (λ (z : SequenceDef). z.members ∷ []) (sym is)
    more (e ∷ ds) (suc n) within is = ap (λ mss. e.members ∷ mss) (more ds n (omega (arith, within)) is)
