-- The steps of the loops of EDGE.
use Rattle.std.specs.Prelude.{Bool, List, None, Option, Some, [], false, int_le, int_lt, is_some, length, refl, slice_index_or, slice_set, suc, true, zero, ℕ, ℤ, ◌+◌, ◌<ℤ◌, ◌<◌, ◌∷◌, ◌≡◌, ◌≢◌, ◌≤ℤ◌, ◌≤◌, ◌⊎◌}
use Rattle.std.proofs.Common.{arith, inl, inr, subst, sym, ◌∙◌}
use Rattle.std.proofs.lemmas.Bool.{cases_eq}
use Rattle.std.proofs.lemmas.Int.{ints}
use Rattle.task_sets.specs.laws.Ects.{le_holds, lt_holds}
use Rattle.task_sets.specs.Times.{IsEct, IsSized}
use Rattle.thetatree.specs.code.Leaves.{GivesEct, Leaves, colour_at}
use Rattle.thetatree.specs.declared.leaves.Colour.{Colour}
use Rattle.thetatree.specs.declared.leaves.Colour.TheVariants.{Gray, Out, White}
use Rattle.theta_passes.proofs.trees.Between.{below_or, between_facts, not_between}
use Rattle.theta_passes.proofs.trees.Cuts.{all_met, late_done, late_found, none_late, tree_cut}
use Rattle.theta_passes.specs.code.Edge.{FoundOrNone, IsAt, IsDone, IsFallen, IsFound, IsLate, IsLevel, IsMember, IsOrder, IsPassed, LateOrNone, NoOverload, NoneAt, PassOrNone, cut_of, grays}
use Rattle.theta_passes.specs.code.Rows.{Fits, is_between, is_candidate, is_present, lct_in, row_at, times_at}
use Rattle.theta_passes.specs.declared.rows.Row.{Row}
use Rattle.theta_passes.specs.laws.Members.{candidate, is_below, present_below}

pub done_falls : (rows : List Row) (level lower : ℤ) (k : ℕ) → lower ≤ℤ level → IsDone rows level k → IsDone rows lower k
done_falls rows level lower k falls done end z u low found = done end z u (omega (arith, ints, falls, low)) found

-- a place whose colour stays, where its latest completion is not between the two moments
pub level_kept : (t s : Leaves) (rows : List Row) (above level : ℤ) (k : ℕ) → level ≤ℤ above → colour_at s k ≡ colour_at t k
    → (is_candidate rows k ≡ true → level <ℤ (row_at rows k).lct → (row_at rows k).lct ≤ℤ above → ⊥) → IsAt t rows above k → IsAt s rows level k
level_kept t s rows above level k falls same apart at = record {
  white = λ on low. same ∙ at.white on (omega (arith, ints, low, falls));
  above = λ on late. decided (int_lt above (row_at rows k).lct) refl on late;
  whites = λ white. let h = at.whites (sym same ∙ white) in (h.0, le_of h.0 h.1 (int_le (row_at rows k).lct level) refl);
  grays = λ gray. let h = at.grays (sym same ∙ gray) in (h.0, omega (arith, ints, h.1, falls));
}
  where
    decided : (b : Bool) → int_lt above (row_at rows k).lct ≡ b → is_candidate rows k ≡ true → level <ℤ (row_at rows k).lct → (colour_at s k ≡ Gray) ⊎ IsDone rows level k
    decided true high on late = elim (at.above on (lt_holds above (row_at rows k).lct high)) [
      | inl gray ↦ inl (same ∙ gray)
      | inr done ↦ inr (done_falls rows above level k falls done)
    ]
    decided false low on late = absurd (apart on late (grind (arith, ints)))

    le_of : is_present rows k ≡ true → (row_at rows k).lct ≤ℤ above → (b : Bool) → int_le (row_at rows k).lct level ≡ b → (row_at rows k).lct ≤ℤ level
    le_of on high true is = le_holds (row_at rows k).lct level is
    le_of on high false is = absurd (apart (candidate rows k on) (grind (arith, ints)) high)

-- a place that is painted gray
pub level_gray : (s : Leaves) (rows : List Row) (level : ℤ) (k : ℕ) → is_candidate rows k ≡ true → level <ℤ (row_at rows k).lct → colour_at s k ≡ Gray → IsAt s rows level k
level_gray s rows level k on late gray = record {
  white = λ present low. absurd (omega (arith, ints, low, late));
  above = λ one high. inl gray;
  whites = λ white. let clash : Gray ≡ White = sym gray ∙ white in cc;
  grays = λ same. (on, late);
}

-- a place that is painted out
pub level_out : (s : Leaves) (rows : List Row) (level : ℤ) (k : ℕ) → level <ℤ (row_at rows k).lct → colour_at s k ≡ Out → IsDone rows level k → IsAt s rows level k
level_out s rows level k late out done = record {
  white = λ present low. absurd (omega (arith, ints, low, late));
  above = λ one high. inr done;
  whites = λ white. let clash : Out ≡ White = sym out ∙ white in cc;
  grays = λ gray. let clash : Out ≡ Gray = sym out ∙ gray in cc;
}

pub at_same : (t s : Leaves) (rows : List Row) (level : ℤ) (k : ℕ) → colour_at s k ≡ colour_at t k → IsAt t rows level k → IsAt s rows level k
at_same t s rows level k same at = level_kept t s rows level level k (omega (arith, ints)) same (λ on late low. omega (arith, ints, late, low)) at

pub fallen_start : (t : Leaves) (rows : List Row) (above level : ℤ) → IsLevel t rows above → IsFallen t rows above level 0
fallen_start t rows above level at = record {
  below = λ k low. absurd (omega (arith, low));
  rest = λ k high. at k;
}

pub fallen_end : (t : Leaves) (rows : List Row) (above level : ℤ) (n : ℕ) → level ≤ℤ above → length rows ≤ n → IsFallen t rows above level n → IsLevel t rows level
fallen_end t rows above level n falls all fallen k = elim (below_or k n) [
  | inl low ↦ fallen.below k low
  | inr high ↦ level_kept t t rows above level k falls refl (λ on late low. high (let h = is_below rows k on in omega (arith, h, all))) (fallen.rest k high)
]

pub fallen_painted : (t s : Leaves) (rows : List Row) (above level : ℤ) (n : ℕ) (r : Row) → r ≡ row_at rows n → is_between r above level ≡ true → colour_at s n ≡ Gray → ((j : ℕ) → j ≢ n → colour_at s j ≡ colour_at t j)
    → IsFallen t rows above level n → IsFallen s rows above level (n + 1)
fallen_painted t s rows above level n r is between gray others fallen =
    let h = between_facts (row_at rows n) above level (subst (λ q. is_between q above level ≡ true) is between) in
    record {
      below = λ k low. elim (cases_eq k n) [
        | inl same ↦ subst (λ j. IsAt s rows level j) (sym same) (level_gray s rows level n h.0 h.1 gray)
        | inr other ↦ at_same t s rows level k (others k other) (fallen.below k (omega (arith, low, other)))
      ];
      rest = λ k high. at_same t s rows above k (others k (λ same. high (omega (arith, same)))) (fallen.rest k (λ low. high (omega (arith, low))));
    }

pub fallen_kept : (t : Leaves) (rows : List Row) (above level : ℤ) (n : ℕ) (r : Row) → level ≤ℤ above → r ≡ row_at rows n → is_between r above level ≡ false → IsFallen t rows above level n → IsFallen t rows above level (n + 1)
fallen_kept t rows above level n r falls is between fallen = record {
  below = λ k low. elim (cases_eq k n) [
    | inl same ↦ subst (λ j. IsAt t rows level j) (sym same)
        (level_kept t t rows above level n falls refl (not_between (row_at rows n) above level (subst (λ q. is_between q above level ≡ false) is between)) (fallen.rest n (λ low. omega (arith, low))))
    | inr other ↦ fallen.below k (omega (arith, low, other))
  ];
  rest = λ k high. fallen.rest k (λ low. high (omega (arith, low)));
}

-- a gray leaf is painted out
pub level_after : (t s : Leaves) (rows : List Row) (level : ℤ) (n : ℕ) → level <ℤ (row_at rows n).lct → IsDone rows level n → colour_at s n ≡ Out → ((j : ℕ) → j ≢ n → colour_at s j ≡ colour_at t j) → IsLevel t rows level → IsLevel s rows level
level_after t s rows level n late done out others at k = elim (cases_eq k n) [
  | inl same ↦ subst (λ j. IsAt s rows level j) (sym same) (level_out s rows level n late out done)
  | inr other ↦ at_same t s rows level k (others k other) (at k)
]

pub fewer_grays : (cs : List Colour) (k : ℕ) → slice_index_or cs k Out ≡ Gray → grays (slice_set cs k Out) < grays cs
fewer_grays [] k gray = cc
fewer_grays (Gray ∷ cs) zero gray = omega arith
fewer_grays (White ∷ cs) zero gray = cc
fewer_grays (Out ∷ cs) zero gray = cc
fewer_grays (Gray ∷ cs) (suc k) gray = omega (arith, fewer_grays cs k gray)
fewer_grays (White ∷ cs) (suc k) gray = fewer_grays cs k gray
fewer_grays (Out ∷ cs) (suc k) gray = fewer_grays cs k gray

pub level_at : (t : Leaves) (rows : List Row) (l level : ℤ) → l ≡ level → IsLevel t rows l → IsLevel t rows level
level_at t rows l level same at = subst (IsLevel t rows) same at

pub late_is : (t : Leaves) (level : ℤ) (o : Option ℕ) (k : ℕ) → o ≡ Some k → LateOrNone t level o → IsLate t level k
late_is t level o k is late = subst (LateOrNone t level) is late

pub gray_is : (t : Leaves) (rows : List Row) (l level : ℤ) (o : Option ℕ) (k : ℕ) → l ≡ level → IsLevel t rows l → o ≡ Some k → LateOrNone t l o → colour_at t k ≡ Gray
gray_is t rows l level o k same at is late = (late_is t l o k is late).ect.reached.2.gray_in.1

pub late_within : (t : Leaves) (rows : List Row) (l level : ℤ) (o : Option ℕ) (k : ℕ) → l ≡ level → IsLevel t rows l → o ≡ Some k → LateOrNone t l o → k < length rows
late_within t rows l level o k same at is late = is_below rows k (let now = level_at t rows l level same at in ((now k).grays (gray_is t rows l level o k same at is late)).0)

pub late_then : (t : Leaves) (rows : List Row) (l level ect : ℤ) (o : Option ℕ) (k : ℕ) → IsSized (times_at rows) → Fits t rows → l ≡ level → IsLevel t rows l → IsMember rows level → IsEct (times_at rows) (cut_of rows level) ect
    → o ≡ Some k → LateOrNone t l o → (row_at rows k).lst <ℤ ect → IsFound rows k
late_then t rows l level ect o k valid fits same at member cut is late start =
    late_found t rows level ect member.place k valid fits (level_at t rows l level same at) member.on member.is cut (subst (λ v. IsLate t v k) same (late_is t l o k is late)) start

pub late_after : (t s : Leaves) (rows : List Row) (l level ect : ℤ) (o : Option ℕ) (k : ℕ) → l ≡ level → IsLevel t rows l → IsEct (times_at rows) (cut_of rows level) ect
    → o ≡ Some k → LateOrNone t l o → ((row_at rows k).lst <ℤ ect → ⊥) → colour_at s k ≡ Out → ((j : ℕ) → j ≢ k → colour_at s j ≡ colour_at t j) → IsLevel s rows l
late_after t s rows l level ect o k same at cut is late start out others =
    let now = level_at t rows l level same at in
    let h = (now k).grays (gray_is t rows l level o k same at is late) in
    level_at s rows level l (sym same) (level_after t s rows level k h.1 (late_done rows level ect k cut (not_less (row_at rows k).lst ect start)) out others now)
  where
    not_less : (a b : ℤ) → (a <ℤ b → ⊥) → b ≤ℤ a
    not_less a b none = decided (int_lt a b) refl
      where
        decided : (v : Bool) → int_lt a b ≡ v → b ≤ℤ a
        decided true is = absurd (none (lt_holds a b is))
        decided false is = grind (arith, ints)

pub late_smaller : (t s : Leaves) (rows : List Row) (l level : ℤ) (o : Option ℕ) (k : ℕ) → l ≡ level → IsLevel t rows l → o ≡ Some k → LateOrNone t l o → s.colours ≡ slice_set t.colours k Out → grays s.colours < grays t.colours
late_smaller t s rows l level o k same at is late new = subst (λ cs. grays cs < grays t.colours) (sym new) (fewer_grays t.colours k (gray_is t rows l level o k same at is late))

pub late_none : (t : Leaves) (rows : List Row) (l level : ℤ) (o : Option ℕ) → IsSized (times_at rows) → NoOverload rows → Fits t rows → l ≡ level → IsLevel t rows l → o ≡ None → LateOrNone t l o → NoneAt rows level
late_none t rows l level o valid none fits same at is late = none_late t rows level valid none fits (level_at t rows l level same at) (subst (λ v. LateOrNone t v None) same (subst (LateOrNone t l) is late))

pub pass_more : (t s : Leaves) (rows : List Row) (order : List ℕ) (above l level : ℤ) (done : ℕ) (o : Option ℕ) → IsOrder rows order → IsPassed t rows order above done → done < length order → l ≡ level → level ≡ lct_in rows order done
    → IsLevel s rows level → o ≡ None → FoundOrNone rows level o → IsPassed s rows order l (done + 1)
pass_more t s rows order above l level done o ordered passed within same is at none found = subst (λ v. IsPassed s rows order v (done + 1)) (sym same) (record {
  at = at;
  met = λ n low. elim (cases_eq n done) [
    | inl last ↦ subst (λ j. NoneAt rows (lct_in rows order j)) (sym last) (subst (NoneAt rows) is (subst (FoundOrNone rows level) none found))
    | inr other ↦ passed.met n (omega (arith, low, other))
  ];
  falls = λ n from low. subst (λ v. lct_in rows order n ≤ℤ v) (sym is) (ordered.falls done n (omega (arith, from)) low);
})

pub pass_end : (t : Leaves) (rows : List Row) (order : List ℕ) (above : ℤ) (done : ℕ) → IsOrder rows order → IsPassed t rows order above done → length order ≤ done → PassOrNone rows None
pass_end t rows order above done ordered passed all = all_met rows (λ m on.
    let n = ordered.whole m on in
    subst (λ k. NoneAt rows (row_at rows k).lct) n.2 (passed.met n.0 (omega (arith, n.1, all))))

pub order_below : (rows : List Row) (order : List ℕ) (n : ℕ) → IsOrder rows order → n < length order → slice_index_or order n 0 < length rows
order_below rows order n ordered within = present_below rows (slice_index_or order n 0) (ordered.present n within)

pub found_is : (rows : List Row) (level : ℤ) (o : Option ℕ) → (o ≡ None → ⊥) → FoundOrNone rows level o → PassOrNone rows o
found_is rows level (Some k) some found = found
found_is rows level None some found = absurd (some refl)

pub cut_is : (t : Leaves) (rows : List Row) (level : ℤ) (o : Option ℤ) (z : ℤ) → IsSized (times_at rows) → Fits t rows → IsLevel t rows level → o ≡ Some z → GivesEct t o → IsEct (times_at rows) (cut_of rows level) z
cut_is t rows level o z valid fits at is ect = tree_cut t rows level z valid fits at (subst (GivesEct t) is ect)

pub cut_white : (t : Leaves) (rows : List Row) (level : ℤ) (o : Option ℤ) → IsLevel t rows level → IsMember rows level → o ≡ None → GivesEct t o → ⊥
cut_white t rows level o at member is none =
    let top = member.is in
    (subst (GivesEct t) is none) member.place ((at member.place).white member.on (omega (arith, ints, top)))

pub cut_value : (rows : List Row) (level v z : ℤ) → v ≡ z → IsEct (times_at rows) (cut_of rows level) z → IsEct (times_at rows) (cut_of rows level) v
cut_value rows level v z same ect = subst (IsEct (times_at rows) (cut_of rows level)) (sym same) ect

pub none_is : (o : Option ℕ) → is_some o ≡ false → o ≡ None
none_is None is = refl
none_is (Some k) is = cc
