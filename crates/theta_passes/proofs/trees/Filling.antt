-- The steps of the loops of NOTEND and DETECT.
use Rattle.std.specs.Prelude.{Bool, List, None, Option, Some, false, int_lt, length, nat_eq, not, refl, slice_index_or, true, ℕ, ℤ, ◌+◌, ◌<ℤ◌, ◌<◌, ◌≡◌, ◌≢◌, ◌≤ℤ◌, ◌≤◌}
use Rattle.std.proofs.Common.{ap, arith, inl, inr, subst, sym, ◌∙◌}
use Rattle.std.proofs.lemmas.Bool.{and_from, and_parts, cases_eq}
use Rattle.std.proofs.lemmas.Bool.Decides.{nat_tests}
use Rattle.std.proofs.lemmas.Int.{ints}
use Rattle.base_laws.specs.laws.Truth.{all_three, three_true}
use Rattle.task_sets.specs.laws.Cuts.{IsBelow}
use Rattle.task_sets.specs.laws.Ects.{lt_holds, lt_true}
use Rattle.task_sets.specs.laws.Sums.{has_first, unequal}
use Rattle.task_sets.specs.Times.{IsSized}
use Rattle.thetatree.specs.code.Leaves.{GivesEct, Leaves, colour_at}
use Rattle.thetatree.specs.declared.leaves.Colour.TheVariants.{Out, White}
use Rattle.theta_passes.proofs.trees.Between.{below_or}
use Rattle.theta_passes.proofs.trees.Cuts.{tree_test}
use Rattle.theta_passes.specs.code.Late.{GivesLate, IsFilled, IsFilling, IsLatePassed, IsRising, LateAt, before_key, is_above, key_in, starts_before}
use Rattle.theta_passes.specs.code.Rows.{Fits, is_present, row_at, times_at}
use Rattle.theta_passes.specs.declared.rows.Row.{Row}
use Rattle.theta_passes.specs.laws.Members.{present_below}

pub key_below : (rows : List Row) (i : ℕ) → IsBelow (before_key rows i) (length rows)
key_below rows i y on = present_below rows y (three_true (is_present rows y) (not (nat_eq y i)) (int_lt (row_at rows y).lst (row_at rows i).reach) on).0

pub differs : (y i : ℕ) → y ≢ i → not (nat_eq y i) ≡ true
differs y i is = grind (arith, nat_tests)

-- with i out, white are those that must start before i can end
pub late_ect : (t s : Leaves) (rows : List Row) (i : ℕ) (o : Option ℤ) → IsSized (times_at rows) → Fits s rows → ((k : ℕ) → IsFilled t rows (row_at rows i).reach k) → colour_at s i ≡ Out → ((j : ℕ) → j ≢ i → colour_at s j ≡ colour_at t j)
    → GivesEct s o → GivesLate rows i o
late_ect t s rows i o valid fits filled out others gives = given o gives
  where
    to : (k : ℕ) → colour_at s k ≡ White → before_key rows i k ≡ true
    to k white = elim (cases_eq k i) [
      | inl same ↦ let clash : Out ≡ White = sym out ∙ subst (λ w. colour_at s w ≡ White) same white in cc
      | inr other ↦ let h = (filled k).whites (sym (others k other) ∙ white) in all_three (is_present rows k) (not (nat_eq k i)) _ h.0 (differs k i other) (lt_true (row_at rows k).lst (row_at rows i).reach h.1)
    ]

    from : (k : ℕ) → before_key rows i k ≡ true → colour_at s k ≡ White
    from k on =
        let h = three_true (is_present rows k) (not (nat_eq k i)) (int_lt (row_at rows k).lst (row_at rows i).reach) on in
        others k (unequal k i h.1) ∙ (filled k).white h.0 (lt_holds (row_at rows k).lst (row_at rows i).reach h.2)

    given : (o : Option ℤ) → GivesEct s o → GivesLate rows i o
    given None none = λ y on. let white = from y on in none y white
    given (Some z) ect = tree_test s rows (before_key rows i) z valid fits (key_below rows i) to from ect

-- what the answer says of i
pub late_at : (rows : List Row) (i : ℕ) (o : Option ℤ) → GivesLate rows i o → LateAt rows i (is_above (row_at rows i).bar o)
late_at rows i None none = λ z late. none late.ect.reached.0 (late.ect.reached.2.inside late.ect.reached.0 (has_first late.ect.reached.0 late.ect.reached.1))
late_at rows i (Some z) ect = decided (int_lt (row_at rows i).bar z) refl
  where
    decided : (b : Bool) → int_lt (row_at rows i).bar z ≡ b → LateAt rows i b
    decided true is = (z, record { ect = ect; late = lt_holds (row_at rows i).bar z is })
    decided false is = λ w late.
        let up = ect.greatest late.ect.reached.0 late.ect.reached.1 late.ect.reached.2 in
        let same = late.ect.reached.3 in
        let low : z ≤ℤ (row_at rows i).bar = grind (arith, ints) in
        omega (arith, ints, up, same, low, late.late)

pub filled_same : (t s : Leaves) (rows : List Row) (key : ℤ) (k : ℕ) → colour_at s k ≡ colour_at t k → IsFilled t rows key k → IsFilled s rows key k
filled_same t s rows key k same filled = record { white = λ on low. same ∙ filled.white on low; whites = λ white. filled.whites (sym same ∙ white) }

pub filling_painted : (t s : Leaves) (rows : List Row) (from key : ℤ) (n : ℕ) → starts_before (row_at rows n) key ≡ true → colour_at s n ≡ White → ((j : ℕ) → j ≢ n → colour_at s j ≡ colour_at t j) → IsFilling t rows from key n → IsFilling s rows from key (n + 1)
filling_painted t s rows from key n is white others filling =
    let h = and_parts (is_present rows n) (int_lt (row_at rows n).lst key) is in
    record {
      below = λ k low. elim (cases_eq k n) [
        | inl same ↦ subst (λ j. IsFilled s rows key j) (sym same) (record { white = λ on late. white; whites = λ w. (h.0, lt_holds (row_at rows n).lst key h.1) })
        | inr other ↦ filled_same t s rows key k (others k other) (filling.below k (omega (arith, low, other)))
      ];
      rest = λ k high. filled_same t s rows from k (others k (λ same. high (omega (arith, same)))) (filling.rest k (λ low. high (omega (arith, low))));
    }

pub filled_on : (t : Leaves) (rows : List Row) (from key : ℤ) (k : ℕ) → from ≤ℤ key → (is_present rows k ≡ true → (row_at rows k).lst <ℤ key → ⊥) → IsFilled t rows from k → IsFilled t rows key k
filled_on t rows from key k rises none filled = record {
  white = λ on low. absurd (none on low);
  whites = λ white. let h = filled.whites white in (h.0, omega (arith, ints, h.1, rises));
}

pub filling_kept : (t : Leaves) (rows : List Row) (from key : ℤ) (n : ℕ) → from ≤ℤ key → starts_before (row_at rows n) key ≡ false → IsFilling t rows from key n → IsFilling t rows from key (n + 1)
filling_kept t rows from key n rises is filling = record {
  below = λ k low. elim (cases_eq k n) [
    | inl same ↦ subst (λ j. IsFilled t rows key j) (sym same) (filled_on t rows from key n rises
        (λ on late. let h : starts_before (row_at rows n) key ≡ true = and_from (is_present rows n) (int_lt (row_at rows n).lst key) on (lt_true (row_at rows n).lst key late) in let clash : false ≡ true = sym is ∙ h in cc)
        (filling.rest n (λ low. omega (arith, low))))
    | inr other ↦ filling.below k (omega (arith, low, other))
  ];
  rest = λ k high. filling.rest k (λ low. high (omega (arith, low)));
}

-- whoever must start before the earlier moment is white already
pub filling_there : (t : Leaves) (rows : List Row) (from key : ℤ) (n : ℕ) → from ≤ℤ key → starts_before (row_at rows n) from ≡ true → IsFilling t rows from key n → IsFilling t rows from key (n + 1)
filling_there t rows from key n rises is filling = record {
  below = λ k low. elim (cases_eq k n) [
    | inl same ↦ subst (λ j. IsFilled t rows key j) (sym same) (let filled = filling.rest n (λ early. omega (arith, early)) in record {
      white = λ on late. let h = and_parts (is_present rows n) (int_lt (row_at rows n).lst from) is in filled.white h.0 (lt_holds (row_at rows n).lst from h.1);
      whites = λ white. let h = filled.whites white in (h.0, omega (arith, ints, h.1, rises));
    })
    | inr other ↦ filling.below k (omega (arith, low, other))
  ];
  rest = λ k high. filling.rest k (λ low. high (omega (arith, low)));
}

pub filling_start : (t : Leaves) (rows : List Row) (from key : ℤ) → ((k : ℕ) → IsFilled t rows from k) → IsFilling t rows from key 0
filling_start t rows from key filled = record { below = λ k low. absurd (omega (arith, low)); rest = λ k high. filled k }

pub filling_end : (t : Leaves) (rows : List Row) (from key : ℤ) (n : ℕ) → from ≤ℤ key → length rows ≤ n → IsFilling t rows from key n → (k : ℕ) → IsFilled t rows key k
filling_end t rows from key n rises all filling k = elim (below_or k n) [
  | inl low ↦ filling.below k low
  | inr high ↦ filled_on t rows from key k rises (λ on late. high (let h = present_below rows k on in omega (arith, h, all))) (filling.rest k high)
]

-- i is put back
pub filled_back : (t s u : Leaves) (rows : List Row) (key : ℤ) (i : ℕ) → starts_before (row_at rows i) key ≡ true → ((j : ℕ) → j ≢ i → colour_at s j ≡ colour_at t j) → colour_at u i ≡ White → ((j : ℕ) → j ≢ i → colour_at u j ≡ colour_at s j)
    → ((k : ℕ) → IsFilled t rows key k) → (k : ℕ) → IsFilled u rows key k
filled_back t s u rows key i is others white more filled k = elim (cases_eq k i) [
  | inl same ↦ let h = and_parts (is_present rows i) (int_lt (row_at rows i).lst key) is in subst (λ j. IsFilled u rows key j) (sym same) (record { white = λ on late. white; whites = λ w. (h.0, lt_holds (row_at rows i).lst key h.1) })
  | inr other ↦ filled_same t u rows key k (more k other ∙ others k other) (filled k)
]

-- or was not white
pub filled_out : (t s : Leaves) (rows : List Row) (key : ℤ) (i : ℕ) → starts_before (row_at rows i) key ≡ false → colour_at s i ≡ Out → ((j : ℕ) → j ≢ i → colour_at s j ≡ colour_at t j) → ((k : ℕ) → IsFilled t rows key k) → (k : ℕ) → IsFilled s rows key k
filled_out t s rows key i is out others filled k = elim (cases_eq k i) [
  | inl same ↦ subst (λ j. IsFilled s rows key j) (sym same) (record {
    white = λ on late. let h : starts_before (row_at rows i) key ≡ true = and_from (is_present rows i) (int_lt (row_at rows i).lst key) on (lt_true (row_at rows i).lst key late) in let clash : false ≡ true = sym is ∙ h in cc;
    whites = λ white. let clash : Out ≡ White = sym out ∙ white in cc;
  })
  | inr other ↦ filled_same t s rows key k (others k other) (filled k)
]

pub late_more : (t s : Leaves) (rows : List Row) (order : List ℕ) (key next : ℤ) (done : ℕ) (b : Bool) → IsRising rows order → IsLatePassed t rows order key done → done < length order → next ≡ key_in rows order done
    → ((k : ℕ) → IsFilled s rows next k) → b ≡ false → LateAt rows (slice_index_or order done 0) b → IsLatePassed s rows order next (done + 1)
late_more t s rows order key next done b rising passed within is at none late = record {
  at = at;
  met = λ n low. elim (cases_eq n done) [
    | inl last ↦ subst (λ j. LateAt rows (slice_index_or order j 0) false) (sym last) (subst (LateAt rows (slice_index_or order done 0)) none late)
    | inr other ↦ passed.met n (omega (arith, low, other))
  ];
  rises = λ n from low. subst (λ v. v ≤ℤ key_in rows order n) (sym is) (rising.rises done n (omega (arith, from)) low);
}

pub key_is : (t : Leaves) (rows : List Row) (v key : ℤ) → v ≡ key → ((k : ℕ) → IsFilled t rows v k) → (k : ℕ) → IsFilled t rows key k
key_is t rows v key same filled = subst (λ w. (k : ℕ) → IsFilled t rows w k) same filled

pub late_is : (rows : List Row) (i : ℕ) (b : Bool) (bar : ℤ) (o : Option ℤ) → bar ≡ (row_at rows i).bar → b ≡ is_above bar o → GivesLate rows i o → LateAt rows i b
late_is rows i b bar o is same gives = subst (LateAt rows i) (sym (same ∙ ap (λ v. is_above v o) is)) (late_at rows i o gives)
