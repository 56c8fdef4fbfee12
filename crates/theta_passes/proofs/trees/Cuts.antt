-- What the tree answers, in the words of cuts.
use Rattle.std.specs.Int.{int_min}
use Rattle.std.specs.Prelude.{Bool, List, None, Option, Some, [], false, fold, int_le, length, map, nat_eq, refl, true, ℕ, ℤ, ◌<ℤ◌, ◌<◌, ◌∷◌, ◌≡◌, ◌≤ℤ◌}
use Rattle.std.proofs.Common.{ap, arith, inl, inr, subst, sym, ◌∙◌}
use Rattle.std.proofs.lemmas.Bool.{and_from, and_parts, or_cases, or_left, or_right}
use Rattle.std.proofs.lemmas.Int.{int_min_is, ints}
use Rattle.task_sets.specs.laws.Cuts.{IsBelow, cut_below, cut_overloads}
use Rattle.task_sets.specs.laws.Ects.{ect_exists, le_holds, le_true}
use Rattle.task_sets.specs.laws.EdgeCuts.{once_bound, once_rises}
use Rattle.task_sets.specs.laws.Sums.{Once, has_first, same_number, self_eq}
use Rattle.task_sets.specs.Times.{IsEct, IsEdgeCut, IsSized, IsWithin, Times, ends_at, est_at, has, set_est, sum_of, with_one}
use Rattle.thetatree.specs.code.Leaves.{IsChosen, IsOnce, Leaves, colour_at, end_of, task_at}
use Rattle.thetatree.specs.declared.leaves.Colour.TheVariants.{Gray, Out, White}
use Rattle.theta_passes.specs.code.Edge.{IsDone, IsEarly, IsFound, IsLate, IsLevel, LateOrNone, NoOverload, NoneAt, cut_of}
use Rattle.theta_passes.specs.code.Rows.{Fits, is_candidate, is_present, row_at, times_at}
use Rattle.theta_passes.specs.declared.rows.Row.{Row}
use Rattle.theta_passes.specs.laws.Members.{is_below, present_below}
use Rattle.thetatree.specs.code.Leaves as leaves

pub est_same : (t : Leaves) (rows : List Row) (k : ℕ) → Fits t rows → (task_at t k).est ≡ est_at (times_at rows) k
est_same t rows k fits = ap (λ a. a.est) (fits.each k)

pub sum_same : (t : Leaves) (rows : List Row) (ks : List ℕ) → Fits t rows → leaves.sum_of t ks ≡ sum_of (times_at rows) ks
sum_same t rows [] fits = refl
sum_same t rows (k ∷ ks) fits =
    let one = ap (λ a. a.p) (fits.each k) in
    let rest = sum_same t rows ks fits in
    omega (arith, ints, one, rest)

pub min_rest : (t : Leaves) (rows : List Row) (k : ℕ) (ks : List ℕ) (a : ℤ) → Fits t rows → fold int_min a (map (λ i. i.est) (map (times_at rows) (k ∷ ks))) ≡ int_min a (leaves.least_est t k ks)
min_rest t rows k [] a fits = ap (int_min a) (sym (est_same t rows k fits))
min_rest t rows k (j ∷ js) a fits =
    let rest = min_rest t rows j js (int_min a (est_at (times_at rows) k)) fits in
    let one = est_same t rows k fits in
    rest ∙ ap (λ e. int_min (int_min a e) (leaves.least_est t j js)) (sym one) ∙ grouped a (task_at t k).est (leaves.least_est t j js)
  where
    grouped : (a b c : ℤ) → int_min (int_min a b) c ≡ int_min a (int_min b c)
    grouped a b c = omega (arith, ints, int_min_is a b, int_min_is (int_min a b) c, int_min_is b c, int_min_is a (int_min b c))

pub least_same : (t : Leaves) (rows : List Row) (k : ℕ) (ks : List ℕ) → Fits t rows → leaves.least_est t k ks ≡ set_est (map (times_at rows) (k ∷ ks))
least_same t rows k [] fits = est_same t rows k fits
least_same t rows k (j ∷ js) fits =
    ap (λ e. int_min e (leaves.least_est t j js)) (est_same t rows k fits) ∙ sym (min_rest t rows j js (est_at (times_at rows) k) fits)

pub ends_same : (t : Leaves) (rows : List Row) (k : ℕ) (ks : List ℕ) → Fits t rows → end_of t k ks ≡ ends_at (times_at rows) k ks
ends_same t rows k ks fits =
    let one = least_same t rows k ks fits in
    let two = sum_same t rows (k ∷ ks) fits in
    omega (arith, ints, one, two)

pub once_same : (ks : List ℕ) → IsOnce ks → Once ks
once_same [] once = tt
once_same (k ∷ ks) once = (once.0, once_same ks once.1)

pub same_once : (ks : List ℕ) → Once ks → IsOnce ks
same_once [] once = tt
same_once (k ∷ ks) once = (once.0, same_once ks once.1)

-- the greatest over lists without repeats is that over rising ones
pub ect_once : (d : ℕ → Times) (t : ℕ → Bool) (n : ℕ) (z : ℤ) (x : ℕ) (xs : List ℕ) → IsSized d → IsBelow t n → Once (x ∷ xs) → ((y : ℕ) → has (x ∷ xs) y ≡ true → t y ≡ true) → z ≡ ends_at d x xs
    → ((y : ℕ) (ys : List ℕ) → IsWithin t y ys → ends_at d y ys ≤ℤ z) → IsEct d t z
ect_once d t n z x xs valid low once inside is most =
    let ect = ect_exists d t n x valid low (inside x (has_first x xs)) in
    let up = once_bound d t n ect.0 x xs valid low ect.1 once inside in
    let set = ect.1.reached in
    let down = most set.0 set.1 set.2 in
    let top = set.3 in
    let same : ect.0 ≡ z = omega (arith, ints, up, down, top, is) in
    subst (IsEct d t) same ect.1

pub chosen_white : (t : Leaves) (ks : List ℕ) (k : ℕ) → IsChosen t None ks → has ks k ≡ true → colour_at t k ≡ White
chosen_white t ks k chosen here = elim (chosen.white k here) [
  | inl white ↦ white
  | inr none ↦ let no : None ≡ Some k = none in cc
]

-- what the tree answers where white is a test
pub tree_test : (t : Leaves) (rows : List Row) (test : ℕ → Bool) (z : ℤ) → IsSized (times_at rows) → Fits t rows → IsBelow test (length rows) → ((k : ℕ) → colour_at t k ≡ White → test k ≡ true) → ((k : ℕ) → test k ≡ true → colour_at t k ≡ White)
    → leaves.IsEct t z → IsEct (times_at rows) test z
tree_test t rows test z valid fits low to from ect =
    let k = ect.reached.0 in
    let ks = ect.reached.1 in
    let chosen = ect.reached.2 in
    ect_once (times_at rows) test (length rows) z k ks valid low (once_same (k ∷ ks) chosen.once)
    (λ y here. to y (chosen_white t (k ∷ ks) y chosen here))
    (sym ect.reached.3 ∙ ends_same t rows k ks fits)
    (λ y ys set. subst (λ e. e ≤ℤ z) (ends_same t rows y ys fits) (ect.greatest y ys (record {
      once = same_once (y ∷ ys) (once_rises y ys set.rises);
      white = λ w here. inl (from w (set.inside w here));
      gray_in = tt;
    })))

pub white_in : (t : Leaves) (rows : List Row) (level : ℤ) (k : ℕ) → IsLevel t rows level → colour_at t k ≡ White → cut_of rows level k ≡ true
white_in t rows level k at on = let h = (at k).whites on in and_from (is_present rows k) _ h.0 (le_true (row_at rows k).lct level h.1)

pub in_white : (t : Leaves) (rows : List Row) (level : ℤ) (k : ℕ) → IsLevel t rows level → cut_of rows level k ≡ true → colour_at t k ≡ White
in_white t rows level k at on = let h = and_parts (is_present rows k) (int_le (row_at rows k).lct level) on in (at k).white h.0 (le_holds (row_at rows k).lct level h.1)

pub within_chosen : (t : Leaves) (rows : List Row) (level : ℤ) (x : ℕ) (xs : List ℕ) → IsLevel t rows level → IsWithin (cut_of rows level) x xs → IsChosen t None (x ∷ xs)
within_chosen t rows level x xs at set = record {
  once = same_once (x ∷ xs) (once_rises x xs set.rises);
  white = λ k here. inl (in_white t rows level k at (set.inside k here));
  gray_in = tt;
}

-- the tree's answer is the cut's
pub tree_cut : (t : Leaves) (rows : List Row) (level z : ℤ) → IsSized (times_at rows) → Fits t rows → IsLevel t rows level → leaves.IsEct t z → IsEct (times_at rows) (cut_of rows level) z
tree_cut t rows level z valid fits at ect =
    let k = ect.reached.0 in
    let ks = ect.reached.1 in
    let chosen = ect.reached.2 in
    ect_once (times_at rows) (cut_of rows level) (length rows) z k ks valid (cut_below (times_at rows) (is_present rows) (length rows) level (present_below rows)) (once_same (k ∷ ks) chosen.once)
    (λ y here. white_in t rows level y at (chosen_white t (k ∷ ks) y chosen here))
    (sym ect.reached.3 ∙ ends_same t rows k ks fits)
    (λ y ys set. subst (λ e. e ≤ℤ z) (ends_same t rows y ys fits) (ect.greatest y ys (within_chosen t rows level y ys at set)))

pub one_below : (rows : List Row) (level : ℤ) (i : ℕ) → is_candidate rows i ≡ true → IsBelow (with_one i (cut_of rows level)) (length rows)
one_below rows level i one y on = elim (or_cases (nat_eq y i) (cut_of rows level y) on) [
  | inl same ↦ subst (λ w. w < length rows) (sym (same_number y i same)) (is_below rows i one)
  | inr later ↦ cut_below (times_at rows) (is_present rows) (length rows) level (present_below rows) y later
]

pub some_is : (a b : ℕ) → Some a ≡ Some b → a ≡ b
some_is a b same = cc

-- a gray leaf that is named late, and starts early enough, is found
pub late_found : (t : Leaves) (rows : List Row) (level u : ℤ) (m k : ℕ) → IsSized (times_at rows) → Fits t rows → IsLevel t rows level → is_present rows m ≡ true → (row_at rows m).lct ≡ level
    → IsEct (times_at rows) (cut_of rows level) u → IsLate t level k → (row_at rows k).lst <ℤ u → IsFound rows k
late_found t rows level u m k valid fits at on top cut late start =
    let gray = (at k).grays late.ect.reached.2.gray_in.1 in
    let x = late.ect.reached.0 in
    let xs = late.ect.reached.1 in
    let chosen = late.ect.reached.2 in
    let ends = late.ect.reached.3 in
    let more = ect_exists (times_at rows) (with_one k (cut_of rows level)) (length rows) k valid (one_below rows level k gray.0) (or_left (nat_eq k k) _ (self_eq k)) in
    let inside : (y : ℕ) → has (x ∷ xs) y ≡ true → with_one k (cut_of rows level) y ≡ true = λ y here. elim (chosen.white y here) [
      | inl white ↦ or_right (nat_eq y k) _ (white_in t rows level y at white)
      | inr same ↦ or_left (nat_eq y k) _ (subst (λ w. nat_eq w k ≡ true) (some_is k y same) (self_eq k))
    ] in
    let up = once_bound (times_at rows) (with_one k (cut_of rows level)) (length rows) more.0 x xs valid (one_below rows level k gray.0) more.1 (once_same (x ∷ xs) chosen.once) inside in
    let same = ends_same t rows x xs fits in
    let full = late.full in (
      gray.0,
      level,
      more.0,
      u,
      record {
        member = (m, on, top);
        early = gray.1;
        with_i = more.1;
        cut = cut;
        full = omega (arith, ints, up, same, ends, full);
        late = start;
      },
    )

-- the ECT of a cut doesn't rise while its moment falls
pub cut_falls : (rows : List Row) (level end u z : ℤ) → end ≤ℤ level → IsEct (times_at rows) (cut_of rows level) u → IsEct (times_at rows) (cut_of rows end) z → z ≤ℤ u
cut_falls rows level end u z low cut less =
    let set = less.reached in
    let up = cut.greatest set.0 set.1 (record {
      rises = set.2.rises;
      inside = λ y here.
          let h = and_parts (is_present rows y) (int_le (row_at rows y).lct end) (set.2.inside y here) in
          and_from (is_present rows y) _ h.0 (le_true (row_at rows y).lct level (omega (arith, ints, low, le_holds (row_at rows y).lct end h.1)));
    }) in
    let is = set.3 in
    omega (arith, ints, up, is)

-- a leaf that gives no finding gives none at an earlier moment
pub late_done : (rows : List Row) (level u : ℤ) (k : ℕ) → IsEct (times_at rows) (cut_of rows level) u → u ≤ℤ (row_at rows k).lst → IsDone rows level k
late_done rows level u k cut start end z w low found =
    let up = cut_falls rows level end u w low cut found.cut in
    omega (arith, ints, up, found.late, start)

pub chosen_one : (t : Leaves) (rows : List Row) (level : ℤ) (k x : ℕ) (xs : List ℕ) → IsLevel t rows level → colour_at t k ≡ Gray → IsWithin (with_one k (cut_of rows level)) x xs → (any : Option ℕ) × IsChosen t any (x ∷ xs)
chosen_one t rows level k x xs at gray set = decided (has (x ∷ xs) k) refl
  where
    once : IsOnce (x ∷ xs)
    once = same_once (x ∷ xs) (once_rises x xs set.rises)

    off : (y : ℕ) → has (x ∷ xs) k ≡ false → has (x ∷ xs) y ≡ true → nat_eq y k ≡ true → ⊥
    off y out here same = let clash : false ≡ true = sym out ∙ subst (λ w. has (x ∷ xs) w ≡ true) (same_number y k same) here in cc

    decided : (b : Bool) → has (x ∷ xs) k ≡ b → (any : Option ℕ) × IsChosen t any (x ∷ xs)
    decided true here = (
      Some k,
      record {
        once = once;
        white = λ y there. elim (or_cases (nat_eq y k) (cut_of rows level y) (set.inside y there)) [
          | inl same ↦ inr (ap Some (sym (same_number y k same)))
          | inr later ↦ inl (in_white t rows level y at later)
        ];
        gray_in = (here, gray);
      },
    )
    decided false out = (
      None,
      record {
        once = once;
        white = λ y there. elim (or_cases (nat_eq y k) (cut_of rows level y) (set.inside y there)) [
          | inl same ↦ absurd (off y out there same)
          | inr later ↦ inl (in_white t rows level y at later)
        ];
        gray_in = tt;
      },
    )

pub early_none : (t : Leaves) (rows : List Row) (level : ℤ) (k : ℕ) (z w : ℤ) → IsSized (times_at rows) → NoOverload rows → Fits t rows → IsLevel t rows level → colour_at t k ≡ Gray → IsEarly t level
    → IsEdgeCut (times_at rows) (is_present rows) k level z w → ⊥
early_none t rows level k z w valid none fits at gray early found = elim early.why [
  | inl low ↦
      let set = found.with_i.reached in
      let chosen = chosen_one t rows level k set.0 set.1 at gray set.2 in
      let up = early.ect.greatest chosen.0 set.0 set.1 chosen.1 in
      let same = ends_same t rows set.0 set.1 fits in
      let is = set.3 in
      omega (arith, ints, up, same, is, low, found.full)
  | inr white ↦
      let value = early.value in
      let set = found.with_i.reached in
      let chosen = chosen_one t rows level k set.0 set.1 at gray set.2 in
      let up = early.ect.greatest chosen.0 set.0 set.1 chosen.1 in
      let same = ends_same t rows set.0 set.1 fits in
      let is = set.3 in
      let over : level <ℤ value = omega (arith, ints, up, same, is, found.full) in
      let best = subst (λ g. leaves.IsEctGray t value g) white early.ect in
      let x = best.reached.0 in
      let xs = best.reached.1 in
      let inside : (y : ℕ) → has (x ∷ xs) y ≡ true → cut_of rows level y ≡ true = λ y here. white_in t rows level y at (chosen_white t (x ∷ xs) y best.reached.2 here) in
      let top = once_bound (times_at rows) (cut_of rows level) (length rows) w x xs valid (cut_below (times_at rows) (is_present rows) (length rows) level (present_below rows)) found.cut (once_same (x ∷ xs) best.reached.2.once) inside in
      let ends = best.reached.3 in
      let same2 = ends_same t rows x xs fits in
      let s = cut_overloads (times_at rows) (is_present rows) level w (record { member = found.member; ect = found.cut; late = omega (arith, ints, top, ends, same2, over) }) in
      none s.0 s.1
]

pub none_late : (t : Leaves) (rows : List Row) (level : ℤ) → IsSized (times_at rows) → NoOverload rows → Fits t rows → IsLevel t rows level → LateOrNone t level None → NoneAt rows level
none_late t rows level valid none fits at late k z w one found = elim ((at k).above one found.early) [
  | inr done ↦ done level z w (omega (arith, ints)) found
  | inl gray ↦ elim late [
    | inl out ↦ let clash : Gray ≡ Out = sym gray ∙ out k in cc
    | inr early ↦ early_none t rows level k z w valid none fits at gray early found
  ]
]

-- at the end of the walk each cut has been met
pub all_met : (rows : List Row) → ((m : ℕ) → is_present rows m ≡ true → NoneAt rows (row_at rows m).lct) → (k : ℕ) (end z u : ℤ) → is_candidate rows k ≡ true → IsEdgeCut (times_at rows) (is_present rows) k end z u → ⊥
all_met rows met k end z u one found = met found.member.0 found.member.1 k z u one (subst (λ l. IsEdgeCut (times_at rows) (is_present rows) k l z u) (sym found.member.2) found)
