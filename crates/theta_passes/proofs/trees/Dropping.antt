-- The steps of the loops of OVERLOAD.
use Rattle.std.specs.Prelude.{Bool, List, None, Option, Some, [], false, int_le, int_lt, is_some, length, map, nat_eq, refl, true, ℕ, ℤ, ◌+◌, ◌<ℤ◌, ◌<◌, ◌∷◌, ◌≡◌, ◌≢◌, ◌≤ℤ◌, ◌≤◌}
use Rattle.std.proofs.Common.{ap, arith, inl, inr, subst, sym, ◌∙◌}
use Rattle.std.proofs.lemmas.Bool.{and_from, and_parts, cases_eq, or_cases, or_left, or_right}
use Rattle.std.proofs.lemmas.Int.{ints}
use Rattle.task_sets.specs.laws.Cuts.{IsBelow, no_task_set, overload_cuts, overload_is, task_set_of}
use Rattle.task_sets.specs.laws.Ects.{ect_exists, greatest_reached, le_holds, le_true, lt_holds}
use Rattle.task_sets.specs.laws.EdgeCuts.{once_bound, once_rises}
use Rattle.task_sets.specs.laws.Sums.{Once, has_first, same_number, self_eq}
use Rattle.task_sets.specs.Times.{IsSized, IsTooFull, IsWithin, ends_at, greatest_lct, has, in_cut, is_overload, is_task_set, lct_at, overload_row}
use Rattle.thetatree.specs.code.Leaves.{GivesEctGray, IsChosen, IsOnce, Leaves, colour_at}
use Rattle.thetatree.specs.declared.leaves.Colour.TheVariants.{Gray, Out, White}
use Rattle.theta_passes.proofs.trees.Between.{below_or, between_facts, not_between}
use Rattle.theta_passes.proofs.trees.Cuts.{chosen_white, ends_same, once_same, same_once, some_is}
use Rattle.theta_passes.specs.code.Over.{IsFalling, IsFull, IsFullFalling, IsOverPassed, NoneOver, OverAt, OverPass, Overfull, over_by, over_level}
use Rattle.theta_passes.specs.code.Rows.{Fits, is_between, is_candidate, is_present, lct_in, row_at, times_at, with_candidate}
use Rattle.theta_passes.specs.declared.rows.Row.{Row}
use Rattle.theta_passes.specs.laws.Members.{candidate, is_below, with_below}
use Rattle.thetatree.specs.code.Leaves as leaves

-- a list of leaves that ends too late is an overload
pub over_of : (rows : List Row) (test : ℕ → Bool) (level : ℤ) (x : ℕ) (xs : List ℕ) → IsSized (times_at rows) → IsBelow test (length rows) → Once (x ∷ xs) → ((y : ℕ) → has (x ∷ xs) y ≡ true → in_cut (times_at rows) test level y ≡ true)
    → level <ℤ ends_at (times_at rows) x xs → (s : List ℕ) × (overload_row (times_at rows) test s ≡ true)
over_of rows test level x xs valid low once inside late =
    let d = times_at rows in
    let cut = in_cut d test level in
    let under : IsBelow cut (length rows) = λ y on. low y (and_parts (test y) _ on).0 in
    let ect = ect_exists d cut (length rows) x valid under (inside x (has_first x xs)) in
    let up = once_bound d cut (length rows) ect.0 x xs valid under ect.1 once inside in
    let y = ect.1.reached.0 in
    let ys = ect.1.reached.1 in
    let set = ect.1.reached.2 in
    let is = ect.1.reached.3 in
    let top = greatest_reached d y ys in
    let most = le_holds (lct_at d top.0) level (and_parts (test top.0) _ (set.inside top.0 top.1)).1 in
    let end = top.2 in
    (y ∷ ys, overload_is d test y ys (record { rises = set.rises; inside = λ w here. (and_parts (test w) _ (set.inside w here)).0 }) (omega (arith, ints, up, is, most, end, late)))

pub over_found : (t : Leaves) (rows : List Row) (level z : ℤ) (g : Option ℕ) → IsSized (times_at rows) → Fits t rows → ((k : ℕ) → IsFull t rows level k) → leaves.IsEctGray t z g → level <ℤ z → Overfull rows g
over_found t rows level z None valid fits at ect late =
    let x = ect.reached.0 in
    let xs = ect.reached.1 in
    let chosen = ect.reached.2 in
    let ends = ect.reached.3 in
    let same = ends_same t rows x xs fits in
    over_of rows (is_present rows) level x xs valid (λ y on. is_below rows y (candidate rows y on)) (once_same (x ∷ xs) chosen.once)
    (λ y here. let h = (at y).whites (chosen_white t (x ∷ xs) y chosen here) in and_from (is_present rows y) _ h.0 (le_true (row_at rows y).lct level h.1))
    (omega (arith, ints, late, ends, same))
over_found t rows level z (Some i) valid fits at ect late =
    let x = ect.reached.0 in
    let xs = ect.reached.1 in
    let chosen = ect.reached.2 in
    let ends = ect.reached.3 in
    let same = ends_same t rows x xs fits in
    let gray = (at i).grays chosen.gray_in.1 in
    let made = over_of rows (with_candidate rows i) level x xs valid (with_below rows i gray.0) (once_same (x ∷ xs) chosen.once)
    (λ y here. elim (chosen.white y here) [
      | inl white ↦ let h = (at y).whites white in and_from (with_candidate rows i y) _ (or_right (nat_eq y i) (is_present rows y) h.0) (le_true (row_at rows y).lct level h.1)
      | inr is ↦ subst (λ w. in_cut (times_at rows) (with_candidate rows i) level w ≡ true) (some_is i y is) (and_from (with_candidate rows i i) _ (or_left (nat_eq i i) (is_present rows i) (self_eq i)) (le_true (row_at rows i).lct level gray.1))
    ])
    (omega (arith, ints, late, ends, same)) in
    (gray.0, made.0, made.1)

-- a set of the cut, with i, is one that the tree looks at
pub cut_chosen : (t : Leaves) (rows : List Row) (level : ℤ) (i x : ℕ) (xs : List ℕ) → ((k : ℕ) → IsFull t rows level k) → is_candidate rows i ≡ true → IsWithin (in_cut (times_at rows) (with_candidate rows i) level) x xs → (any : Option ℕ) × IsChosen t any (x ∷ xs)
cut_chosen t rows level i x xs at one set = decided (is_present rows i) (has (x ∷ xs) i) refl refl
  where
    once : IsOnce (x ∷ xs)
    once = same_once (x ∷ xs) (once_rises x xs set.rises)

    split : (y : ℕ) → has (x ∷ xs) y ≡ true → (with_candidate rows i y ≡ true) × ((row_at rows y).lct ≤ℤ level)
    split y here = let h = and_parts (with_candidate rows i y) (int_le (row_at rows y).lct level) (set.inside y here) in (h.0, le_holds (row_at rows y).lct level h.1)

    absent : (y : ℕ) → has (x ∷ xs) i ≡ false → has (x ∷ xs) y ≡ true → nat_eq y i ≡ true → ⊥
    absent y out here same = let clash : false ≡ true = sym out ∙ subst (λ w. has (x ∷ xs) w ≡ true) (same_number y i same) here in cc

    decided : (p b : Bool) → is_present rows i ≡ p → has (x ∷ xs) i ≡ b → (any : Option ℕ) × IsChosen t any (x ∷ xs)
    decided true b on here = (
      None,
      record {
        once = once;
        white = λ y there. let h = split y there in elim (or_cases (nat_eq y i) (is_present rows y) h.0) [
          | inl same ↦ inl ((at y).white (subst (λ w. is_present rows w ≡ true) (sym (same_number y i same)) on) h.1)
          | inr present ↦ inl ((at y).white present h.1)
        ];
        gray_in = tt;
      },
    )
    decided false true off here = (
      Some i,
      record {
        once = once;
        white = λ y there. let h = split y there in elim (or_cases (nat_eq y i) (is_present rows y) h.0) [
          | inl same ↦ inr (ap Some (sym (same_number y i same)))
          | inr present ↦ inl ((at y).white present h.1)
        ];
        gray_in = (here, (at i).gray off one (split i here).1);
      },
    )
    decided false false off out = (
      None,
      record {
        once = once;
        white = λ y there. let h = split y there in elim (or_cases (nat_eq y i) (is_present rows y) h.0) [
          | inl same ↦ absurd (absent y out there same)
          | inr present ↦ inl ((at y).white present h.1)
        ];
        gray_in = tt;
      },
    )

pub over_none : (t : Leaves) (rows : List Row) (level z : ℤ) (g : Option ℕ) → Fits t rows → ((k : ℕ) → IsFull t rows level k) → leaves.IsEctGray t z g → z ≤ℤ level → NoneOver rows level
over_none t rows level z g fits at ect low i w one full =
    let x = full.ect.reached.0 in
    let xs = full.ect.reached.1 in
    let is = full.ect.reached.3 in
    let chosen = cut_chosen t rows level i x xs at one full.ect.reached.2 in
    let up = ect.greatest chosen.0 x xs chosen.1 in
    let same = ends_same t rows x xs fits in
    omega (arith, ints, up, same, is, low, full.late)

pub over_empty : (t : Leaves) (rows : List Row) (level : ℤ) → ((k : ℕ) → IsFull t rows level k) → ((k : ℕ) → colour_at t k ≡ Out) → NoneOver rows level
over_empty t rows level at out i w one full =
    let x = full.ect.reached.0 in
    let xs = full.ect.reached.1 in
    let chosen = cut_chosen t rows level i x xs at one full.ect.reached.2 in
    elim (chosen.1.white x (has_first x xs)) [
      | inl white ↦ let clash : Out ≡ White = sym (out x) ∙ white in cc
      | inr gray ↦ none_gray chosen.0 chosen.1
    ]
  where
    none_gray : (any : Option ℕ) → IsChosen t any (full.ect.reached.0 ∷ full.ect.reached.1) → ⊥
    none_gray None c = elim (c.white full.ect.reached.0 (has_first full.ect.reached.0 full.ect.reached.1)) [
      | inl white ↦ let clash : Out ≡ White = sym (out full.ect.reached.0) ∙ white in cc
      | inr none ↦ let no : None ≡ Some full.ect.reached.0 = none in cc
    ]
    none_gray (Some j) c = let clash : Out ≡ Gray = sym (out j) ∙ c.gray_in.1 in cc

pub over_at : (t : Leaves) (rows : List Row) (level : ℤ) (o : Option (ℤ × Option ℕ)) → IsSized (times_at rows) → Fits t rows → ((k : ℕ) → IsFull t rows level k) → GivesEctGray t o → OverAt rows level (over_level level o)
over_at t rows level None valid fits at out = over_empty t rows level at out
over_at t rows level (Some r) valid fits at ect = decided (int_lt level r.0) refl
  where
    decided : (b : Bool) → int_lt level r.0 ≡ b → OverAt rows level (over_by b r.1)
    decided true is = over_found t rows level r.0 r.1 valid fits at ect (lt_holds level r.0 is)
    decided false is = over_none t rows level r.0 r.1 fits at ect (grind (arith, ints))

pub full_same : (t s : Leaves) (rows : List Row) (level : ℤ) (k : ℕ) → colour_at s k ≡ colour_at t k → IsFull t rows level k → IsFull s rows level k
full_same t s rows level k same full = record {
  white = λ on low. same ∙ full.white on low;
  gray = λ off one low. same ∙ full.gray off one low;
  whites = λ white. full.whites (sym same ∙ white);
  grays = λ gray. full.grays (sym same ∙ gray);
}

pub full_kept : (t : Leaves) (rows : List Row) (above level : ℤ) (k : ℕ) → level ≤ℤ above → (is_candidate rows k ≡ true → level <ℤ (row_at rows k).lct → (row_at rows k).lct ≤ℤ above → ⊥) → IsFull t rows above k → IsFull t rows level k
full_kept t rows above level k falls apart full = record {
  white = λ on low. full.white on (omega (arith, ints, low, falls));
  gray = λ off one low. full.gray off one (omega (arith, ints, low, falls));
  whites = λ white. let h = full.whites white in (h.0, le_of (candidate rows k h.0) h.1 (int_le (row_at rows k).lct level) refl);
  grays = λ gray. let h = full.grays gray in (h.0, le_of h.0 h.1 (int_le (row_at rows k).lct level) refl);
}
  where
    le_of : is_candidate rows k ≡ true → (row_at rows k).lct ≤ℤ above → (b : Bool) → int_le (row_at rows k).lct level ≡ b → (row_at rows k).lct ≤ℤ level
    le_of one high true is = le_holds (row_at rows k).lct level is
    le_of one high false is = absurd (apart one (grind (arith, ints)) high)

pub full_out : (s : Leaves) (rows : List Row) (level : ℤ) (k : ℕ) → level <ℤ (row_at rows k).lct → colour_at s k ≡ Out → IsFull s rows level k
full_out s rows level k late out = record {
  white = λ on low. absurd (omega (arith, ints, low, late));
  gray = λ off one low. absurd (omega (arith, ints, low, late));
  whites = λ white. let clash : Out ≡ White = sym out ∙ white in cc;
  grays = λ gray. let clash : Out ≡ Gray = sym out ∙ gray in cc;
}

pub full_start : (t : Leaves) (rows : List Row) (above level : ℤ) → ((k : ℕ) → IsFull t rows above k) → IsFullFalling t rows above level 0
full_start t rows above level full = record { below = λ k low. absurd (omega (arith, low)); rest = λ k high. full k }

pub full_end : (t : Leaves) (rows : List Row) (above level : ℤ) (n : ℕ) → level ≤ℤ above → length rows ≤ n → IsFullFalling t rows above level n → (k : ℕ) → IsFull t rows level k
full_end t rows above level n falls all falling k = elim (below_or k n) [
  | inl low ↦ falling.below k low
  | inr high ↦ full_kept t rows above level k falls (λ one late low. high (let h = is_below rows k one in omega (arith, h, all))) (falling.rest k high)
]

pub full_painted : (t s : Leaves) (rows : List Row) (above level : ℤ) (n : ℕ) → is_between (row_at rows n) above level ≡ true → colour_at s n ≡ Out → ((j : ℕ) → j ≢ n → colour_at s j ≡ colour_at t j) → IsFullFalling t rows above level n → IsFullFalling s rows above level (n + 1)
full_painted t s rows above level n is out others falling =
    let h = between_facts (row_at rows n) above level is in
    record {
      below = λ k low. elim (cases_eq k n) [
        | inl same ↦ subst (λ j. IsFull s rows level j) (sym same) (full_out s rows level n h.1 out)
        | inr other ↦ full_same t s rows level k (others k other) (falling.below k (omega (arith, low, other)))
      ];
      rest = λ k high. full_same t s rows above k (others k (λ same. high (omega (arith, same)))) (falling.rest k (λ low. high (omega (arith, low))));
    }

pub full_left : (t : Leaves) (rows : List Row) (above level : ℤ) (n : ℕ) → level ≤ℤ above → is_between (row_at rows n) above level ≡ false → IsFullFalling t rows above level n → IsFullFalling t rows above level (n + 1)
full_left t rows above level n falls is falling = record {
  below = λ k low. elim (cases_eq k n) [
    | inl same ↦ subst (λ j. IsFull t rows level j) (sym same) (full_kept t rows above level n falls (not_between (row_at rows n) above level is) (falling.rest n (λ low. omega (arith, low))))
    | inr other ↦ falling.below k (omega (arith, low, other))
  ];
  rest = λ k high. falling.rest k (λ low. high (omega (arith, low)));
}

pub full_is : (t : Leaves) (rows : List Row) (v level : ℤ) → v ≡ level → ((k : ℕ) → IsFull t rows v k) → (k : ℕ) → IsFull t rows level k
full_is t rows v level same full = subst (λ w. (k : ℕ) → IsFull t rows w k) same full

pub over_more : (t s : Leaves) (rows : List Row) (order : List ℕ) (above level : ℤ) (done : ℕ) → IsFalling rows order → IsOverPassed t rows order above done → done < length order → level ≡ lct_in rows order done
    → ((k : ℕ) → IsFull s rows level k) → NoneOver rows level → IsOverPassed s rows order level (done + 1)
over_more t s rows order above level done falling passed within is full none = record {
  at = full;
  met = λ n low. elim (cases_eq n done) [
    | inl last ↦ subst (λ j. NoneOver rows (lct_in rows order j)) (sym last) (subst (NoneOver rows) is none)
    | inr other ↦ passed.met n (omega (arith, low, other))
  ];
  falls = λ n from low. subst (λ v. lct_in rows order n ≤ℤ v) (sym is) (falling.falls done n (omega (arith, from)) low);
}

pub with_none : (rows : List Row) (i : ℕ) (s : List ℕ) → IsSized (times_at rows) → ((k : ℕ) → is_candidate rows k ≡ true → NoneOver rows (row_at rows k).lct) → is_candidate rows i ≡ true → overload_row (times_at rows) (with_candidate rows i) s ≡ true → ⊥
with_none rows i s valid none one over =
    let cut = overload_cuts (times_at rows) (with_candidate rows i) (length rows) s valid (with_below rows i one) over in
    let y = cut.2.member.0 in
    let can : is_candidate rows y ≡ true = elim (or_cases (nat_eq y i) (is_present rows y) cut.2.member.1) [
      | inl same ↦ subst (λ w. is_candidate rows w ≡ true) (sym (same_number y i same)) one
      | inr present ↦ candidate rows y present
    ] in
    none y can i cut.1 one (subst (λ l. IsTooFull (times_at rows) (with_candidate rows i) l cut.1) (sym cut.2.member.2) cut.2)

pub alone_none : (rows : List Row) (s : List ℕ) → ((i : ℕ) (s : List ℕ) → is_candidate rows i ≡ true → overload_row (times_at rows) (with_candidate rows i) s ≡ true → ⊥) → overload_row (times_at rows) (is_present rows) s ≡ true → ⊥
alone_none rows [] none over = no_task_set (is_present rows) (and_parts (is_task_set (is_present rows) []) (is_overload []) over).0
alone_none rows (x ∷ xs) none over =
    let parts = and_parts (is_task_set (is_present rows) (x ∷ xs)) (is_overload (map (times_at rows) (x ∷ xs))) over in
    let set = task_set_of (is_present rows) x xs parts.0 in
    none x (x ∷ xs) (candidate rows x (set.inside x (has_first x xs)))
    (overload_is (times_at rows) (with_candidate rows x) x xs (record { rises = set.rises; inside = λ y here. or_right (nat_eq y x) (is_present rows y) (set.inside y here) }) (lt_holds (greatest_lct (times_at rows) x xs) (ends_at (times_at rows) x xs) parts.1))

pub over_end : (t : Leaves) (rows : List Row) (order : List ℕ) (above : ℤ) (done : ℕ) → IsSized (times_at rows) → IsFalling rows order → IsOverPassed t rows order above done → length order ≤ done → OverPass rows None
over_end t rows order above done valid falling passed all =
    let none : (k : ℕ) → is_candidate rows k ≡ true → NoneOver rows (row_at rows k).lct = λ k one. let n = falling.whole k one in subst (λ j. NoneOver rows (row_at rows j).lct) n.2 (passed.met n.0 (omega (arith, n.1, all))) in
    let with_any : (i : ℕ) (s : List ℕ) → is_candidate rows i ≡ true → overload_row (times_at rows) (with_candidate rows i) s ≡ true → ⊥ = λ i s one over. with_none rows i s valid none one over in
    record { alone = λ s over. alone_none rows s with_any over; with_i = with_any }

pub over_is : (rows : List Row) (level : ℤ) (o : Option (ℤ × Option ℕ)) (r : Option (Option ℕ)) → r ≡ over_level level o → OverAt rows level (over_level level o) → OverAt rows level r
over_is rows level o r same at = subst (OverAt rows level) (sym same) at

pub none_over : (rows : List Row) (level : ℤ) (o : Option (Option ℕ)) → is_some o ≡ false → OverAt rows level o → NoneOver rows level
none_over rows level None off none = none
none_over rows level (Some o) off found = let clash : true ≡ false = off in absurd (differ clash)
  where
    differ : true ≡ false → ⊥
    differ same = cc
