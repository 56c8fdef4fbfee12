-- The walk over the ends: what is known once some of them were painted.
use Rattle.std.proofs.Common.{◌≡◌, ◌≢◌, ℕ, zero, suc, ◌+◌, ◌<◌, ◌≤◌, ℤ, pos, ◌*ℤ◌, ◌≤ℤ◌, ◌<ℤ◌, Bool, true, false, List, [], ◌∷◌, length, get_or, take, map, refl, sym, ap, ◌∙◌, subst, inl, inr, arith}
use Rattle.std.specs.Prelude.{nat_eq, ◌||◌, Some, None, slice_set, slice_index_or}
use Rattle.std.proofs.lemmas.Bool.{cases_eq, or_right}
use Rattle.std.proofs.lemmas.Bool.Decides.{nat_tests}
use Rattle.std.proofs.lemmas.Int.{ints}
use Rattle.std.proofs.lemmas.List.{get_or-set_other, take_more}
use Rattle.envelope.specs.code.Bars.{Bars, is_on, has, IsOnce, reach_of}
use Rattle.task_sets.specs.laws.Sums.{same_number}
use Rattle.energy_pass.specs.declared.rows.Row.{Row}
use Rattle.energy_pass.specs.declared.ends.End.{End}
use Rattle.energy_pass.specs.code.Rows.{row_at, AreRows, GivesEnd, IsMoment}
use Rattle.energy_pass.specs.code.Ends.{end_at, is_among, IsEnd, AreEnds}
use Rattle.energy_pass.specs.code.Trees.{bar_of, Fits, FullAt}
use Rattle.energy_pass.proofs.Ending.{any_push}
use Rattle.refute_energy.specs.laws.Products.{rises as product_rises}
use Rattle.energy_pass.proofs.Sets.{over_rows, reach_same, set_over, over_set}

abbrev no_end : End
no_end = record { lct = pos 0; place = 0 }

-- no set of these rows reaches beyond what is offered up to its end
abbrev pub IsQuiet : List Row → ℤ → (ℕ → Bool) → Type 0
IsQuiet rows c p = (end : ℤ) (k : ℕ) (ks : List ℕ) → IsOnce (k ∷ ks) → ((y : ℕ) → has (k ∷ ks) y ≡ true → (p y ≡ true) × ((row_at rows y).lct ≤ℤ end)) → reach_of (over_rows rows c []) k ks ≤ℤ (c *ℤ end)

pub record Walked (rows : List Row) (ends : List End) (c : ℤ) (i : ℕ) (t : Bars) : Type 0 where
  pub fits : Fits t rows c
  pub on : (k : ℕ) → is_on t k ≡ is_among (take i ends) k
  pub quiet : IsQuiet rows c (is_among (take i ends))

among_more : (ends : List End) (i : ℕ) (e : End) (k : ℕ) → i < length ends → e ≡ get_or ends i no_end → is_among (take (i + 1) ends) k ≡ (is_among (take i ends) k || nat_eq e.place k)
among_more ends i e k within is = ap (λ es. is_among es k) (take_more ends i no_end within) ∙ (any_push (λ x. nat_eq x.place k) (take i ends) (get_or ends i no_end) ∙ ap (λ (x : End). is_among (take i ends) k || nat_eq x.place k) (sym is))

-- the tree that fits, told by what is on
as_rows : (t : Bars) (rows : List Row) (c : ℤ) → Fits t rows c → t ≡ over_rows rows c t.on
as_rows t rows c fits = made t.bars (map bar_of rows) t.capacity c t.on fits.bars fits.capacity
  where
    made : (b b' : List _) (z z' : ℤ) (on : List Bool) → b ≡ b' → z ≡ z' → (λ (u : Bars). u) (record { bars = b; capacity = z; on = on }) ≡ record { bars = b'; capacity = z'; on = on }
    made b b' z z' on h k = rw (h, k) refl

reach_is : (t : Bars) (rows : List Row) (c : ℤ) (k : ℕ) (ks : List ℕ) → Fits t rows c → reach_of t k ks ≡ reach_of (over_rows rows c []) k ks
reach_is t rows c k ks fits = ap (λ (u : Bars). reach_of u k ks) (as_rows t rows c fits) ∙ reach_same rows c t.on [] k ks

-- the tree with one more bar on
pub record Painted (old new : Bars) (k : ℕ) : Type 0 where
  pub is : new ≡ record old { on = slice_set old.on k true }
  pub on : is_on new k ≡ true

painted_fits : (rows : List Row) (c : ℤ) (t u : Bars) (k : ℕ) → Fits t rows c → Painted t u k → Fits u rows c
painted_fits rows c t u k fits painted = record { bars = ap (λ (v : Bars). v.bars) painted.is ∙ fits.bars; capacity = ap (λ (v : Bars). v.capacity) painted.is ∙ fits.capacity }

not_this : (a b : Bool) → b ≡ false → (a || b) ≡ a
not_this true b h = refl
not_this false b h = h

painted_on : (rows : List Row) (ends : List End) (c : ℤ) (i : ℕ) (e : End) (t u : Bars) → Walked rows ends c i t → i < length ends → e ≡ get_or ends i no_end → Painted t u e.place → (k : ℕ) → is_on u k ≡ is_among (take (i + 1) ends) k
painted_on rows ends c i e t u walked within is painted k = elim (cases_eq k e.place) [
  | inl same ↦ ap (is_on u) same ∙ (painted.on ∙ sym (among_more ends i e k within is ∙ or_right (is_among (take i ends) k) (nat_eq e.place k) (grind (arith, nat_tests, same))))
  | inr other ↦ ap (λ (v : Bars). slice_index_or v.on k false) painted.is ∙ (get_or-set_other t.on e.place k true false other
      ∙ (walked.on k ∙ sym (among_more ends i e k within is ∙ not_this (is_among (take i ends) k) (nat_eq e.place k) (apart e.place k other))))
]
  where
    apart : (a k : ℕ) → (k ≡ a → ⊥) → nat_eq a k ≡ false
    apart a k h = let other : k ≢ a = h in grind (arith, nat_tests, other)

without : (a b : Bool) → (a || b) ≡ true → b ≡ false → a ≡ true
without true b h k = refl
without false b h k = let clash : true ≡ false = sym h ∙ k in cc

-- one more end, and nothing is over with it
pub walk_more : (rows : List Row) (ends : List End) (c : ℤ) (i : ℕ) (e : End) (t u : Bars) → pos 0 ≤ℤ c → AreEnds rows ends → Walked rows ends c i t → i < length ends → e ≡ get_or ends i no_end
    → Painted t u e.place → FullAt u (c *ℤ e.lct) false → Walked rows ends c (i + 1) u
walk_more rows ends c i e t u from are walked within is painted full = record {
  fits = fits;
  on = on;
  quiet = λ end k ks once each. decided end k ks once each (has (k ∷ ks) e.place) refl;
}
  where
    fits : Fits u rows c
    fits = painted_fits rows c t u e.place walked.fits painted

    on : (k : ℕ) → is_on u k ≡ is_among (take (i + 1) ends) k
    on = painted_on rows ends c i e t u walked within is painted

    an_end : IsEnd rows (length rows) e
    an_end = subst (IsEnd rows (length rows)) (sym is) (are.has.each i no_end within)

    below : (a b c d : ℤ) → a ≡ b → a ≤ℤ c → c ≤ℤ d → b ≤ℤ d
    below a b c d h k l = omega (arith, ints, h, k, l)

    lower : (a b c : ℤ) → a ≡ b → b ≤ℤ c → a ≤ℤ c
    lower a b c h k = omega (arith, ints, h, k)

    decided : (end : ℤ) (k : ℕ) (ks : List ℕ) → IsOnce (k ∷ ks) → ((y : ℕ) → has (k ∷ ks) y ≡ true → (is_among (take (i + 1) ends) y ≡ true) × ((row_at rows y).lct ≤ℤ end)) → (b : Bool) → has (k ∷ ks) e.place ≡ b → reach_of (over_rows rows c []) k ks ≤ℤ (c *ℤ end)
    decided end k ks once each true here =
        let reached = full k ks (record { once = once; on = λ y there. on y ∙ (each y there).0 }) in
        below (reach_of u k ks) (reach_of (over_rows rows c []) k ks) (c *ℤ e.lct) (c *ℤ end) (reach_is u rows c k ks fits) reached
        (product_rises c e.lct end from (lower e.lct (row_at rows e.place).lct end an_end.lct (each e.place here).1))
    decided end k ks once each false none = walked.quiet end k ks once (λ y there. (
      without (is_among (take i ends) y) (nat_eq e.place y) (sym (among_more ends i e y within is) ∙ (each y there).0) (other y there),
      (each y there).1,
    ))
      where
        other : (y : ℕ) → has (k ∷ ks) y ≡ true → nat_eq e.place y ≡ false
        other y there = tested (nat_eq e.place y) refl
          where
            tested : (b : Bool) → nat_eq e.place y ≡ b → b ≡ false
            tested true same = let clash : true ≡ false = sym there ∙ (ap (has (k ∷ ks)) (sym (same_number e.place y same)) ∙ none) in cc
            tested false same = refl

-- a place among the first ends is that of one of them
among_at : (es : List End) (y : ℕ) → is_among es y ≡ true → (j : ℕ) × (j < length es) × ((end_at es j).place ≡ y)
among_at [] y h = cc
among_at (x ∷ xs) y h = tested (nat_eq x.place y) refl h (among_at xs y)
  where
    tested : (b : Bool) → nat_eq x.place y ≡ b → (b || is_among xs y) ≡ true → (is_among xs y ≡ true → (j : ℕ) × (j < length xs) × ((end_at xs j).place ≡ y)) → (j : ℕ) × (j < length (x ∷ xs)) × ((end_at (x ∷ xs) j).place ≡ y)
    tested true same h rest = (0, omega arith, same_number x.place y same)
    tested false other h rest = let later = rest h in (suc later.0, omega (arith, later.1), later.2)

take_at : (es : List End) (n j : ℕ) → j < length (take n es) → (end_at (take n es) j ≡ end_at es j) × (j < n) × (j < length es)
take_at [] zero j h = absurd (omega (arith, h))
take_at [] (suc n) j h = absurd (omega (arith, h))
take_at (x ∷ xs) zero j h = absurd (omega (arith, h))
take_at (x ∷ xs) (suc n) zero h = (refl, omega arith, omega arith)
take_at (x ∷ xs) (suc n) (suc j) h = let rest = take_at xs n j (omega (arith, h)) in (rest.0, omega (arith, rest.1), omega (arith, rest.2))

-- a set that is over
pub walk_found : (rows : List Row) (ends : List End) (c : ℤ) (i : ℕ) (e : End) (t u : Bars) → AreRows rows → pos 0 ≤ℤ c → AreEnds rows ends → Walked rows ends c i t → i < length ends → e ≡ get_or ends i no_end
    → Painted t u e.place → FullAt u (c *ℤ e.lct) true → GivesEnd rows c (Some e.lct)
walk_found rows ends c i e t u rows_are from are walked within is painted full =
    let fits = painted_fits rows c t u e.place walked.fits painted in
    let k = full.0 in
    let ks = full.1 in
    let an_end : IsEnd rows (length rows) e = subst (IsEnd rows (length rows)) (sym is) (are.has.each i no_end within) in (
      subst IsMoment (sym an_end.lct) (rows_are.near e.place (record { est = pos 0; lct = pos 0; energy = pos 0 }) an_end.within).lct,
      set_over rows c e.lct [] k ks rows_are from full.2.once
          (λ y here. early y (sym (painted_on rows ends c i e t u walked within is painted y) ∙ full.2.on y here))
          (subst (λ z. (c *ℤ e.lct) <ℤ z) (reach_is u rows c k ks fits) full.3),
    )
  where
    chain : (a b c d f : ℤ) → a ≡ b → b ≡ c → c ≤ℤ d → d ≡ f → a ≤ℤ f
    chain a b c d f h i j k = omega (arith, ints, h, i, j, k)

    early : (y : ℕ) → is_among (take (i + 1) ends) y ≡ true → (y < length rows) × ((row_at rows y).lct ≤ℤ e.lct)
    early y among =
        let at = among_at (take (i + 1) ends) y among in
        let got = take_at ends (i + 1) at.0 at.1 in
        let place : (end_at ends at.0).place ≡ y = sym (ap (λ (x : End). x.place) got.0) ∙ at.2 in
        let one = are.has.each at.0 no_end got.2 in
        let within_rows = one.within in
        let before = are.by_end at.0 i (omega (arith, got.1)) within in (
          omega (arith, within_rows, place),
          chain (row_at rows y).lct (row_at rows (end_at ends at.0).place).lct (end_at ends at.0).lct (end_at ends i).lct e.lct (ap (λ j. (row_at rows j).lct) (sym place)) (sym one.lct) before (ap (λ (x : End). x.lct) (sym is)),
        )

-- all ends, and nothing is over
take_all : (es : List End) (n : ℕ) → length es ≤ n → take n es ≡ es
take_all [] zero h = refl
take_all [] (suc n) h = refl
take_all (x ∷ xs) zero h = absurd (omega (arith, h))
take_all (x ∷ xs) (suc n) h = ap (λ ys. x ∷ ys) (take_all xs n (omega (arith, h)))

pub walk_end : (rows : List Row) (ends : List End) (c : ℤ) (i : ℕ) (t : Bars) → pos 0 ≤ℤ c → AreEnds rows ends → Walked rows ends c i t → length ends ≤ i → GivesEnd rows c None
walk_end rows ends c i t from are walked all start end over =
    let set = over_set rows c start end from over in
    let most = walked.quiet end set.first set.others set.once (λ y here. (ap (λ es. is_among es y) (take_all ends i all) ∙ are.has.all y (set.each y here).0, (set.each y here).1)) in
    clash (c *ℤ end) (reach_of (over_rows rows c []) set.first set.others) set.over most
  where
    clash : (a b : ℤ) → a <ℤ b → b ≤ℤ a → ⊥
    clash a b h k = omega (arith, ints, h, k)

-- the same in the forms in which a loop has them
pub found_as : (rows : List Row) (ends : List End) (c d : ℤ) (i : ℕ) (e : End) (t u : Bars) (z l : ℤ) → AreRows rows → pos 0 ≤ℤ c → AreEnds rows ends → Walked rows ends d i t → d ≡ c → i < length ends → e ≡ get_or ends i no_end
    → Painted t u e.place → FullAt u z true → z ≡ c *ℤ e.lct → l ≡ e.lct → GivesEnd rows c (Some l)
found_as rows ends c d i e t u z l rows_are from are walked same within is painted full offer moment =
    subst (λ m. GivesEnd rows c (Some m)) (sym moment) (walk_found rows ends c i e t u rows_are from are (subst (λ m. Walked rows ends m i t) same walked) within is painted (subst (λ m. FullAt u m true) offer full))

pub more_as : (rows : List Row) (ends : List End) (c d : ℤ) (i : ℕ) (e : End) (t u : Bars) (z : ℤ) → pos 0 ≤ℤ c → AreEnds rows ends → Walked rows ends d i t → d ≡ c → i < length ends → e ≡ get_or ends i no_end
    → Painted t u e.place → FullAt u z false → z ≡ c *ℤ e.lct → Walked rows ends d (i + 1) u
more_as rows ends c d i e t u z from are walked same within is painted full offer =
    subst (λ m. Walked rows ends m (i + 1) u) (sym same) (walk_more rows ends c i e t u from are (subst (λ m. Walked rows ends m i t) same walked) within is painted (subst (λ m. FullAt u m false) offer full))

pub end_as : (rows : List Row) (ends : List End) (c d : ℤ) (i : ℕ) (t : Bars) → pos 0 ≤ℤ c → AreEnds rows ends → Walked rows ends d i t → d ≡ c → length ends ≤ i → GivesEnd rows c None
end_as rows ends c d i t from are walked same all = walk_end rows ends c i t from are (subst (λ m. Walked rows ends m i t) same walked) all
