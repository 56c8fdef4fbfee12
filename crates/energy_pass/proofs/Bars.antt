-- The tree over rows.
use Rattle.std.proofs.Common.{◌≡◌, ℕ, zero, suc, ◌+◌, ◌<◌, ◌≤◌, ℤ, pos, ◌≤ℤ◌, ◌<ℤ◌, Bool, true, false, List, [], ◌∷◌, ◌++◌, length, map, drop, replicate, refl, sym, ap, ◌∙◌, subst, arith}
use Rattle.std.specs.Prelude.{Some, None, int_lt, slice_index_or}
use Rattle.std.proofs.lemmas.Int.{ints}
use Rattle.std.proofs.lemmas.List.{length-map, append_assoc, append-nil, at_drop_more, at_drop_all}
use Rattle.envelope.specs.declared.bars.Bar.{Bar}
use Rattle.envelope.specs.code.Bars.{Bars, bar_in, IsSmallBar, AreBars, GivesEnvelope}
use Rattle.energy_pass.specs.declared.rows.Row.{Row}
use Rattle.energy_pass.specs.code.Rows.{row_at, AreRows, IsNearRow, IsByEst}
use Rattle.energy_pass.specs.code.Trees.{bar_of, Fits, IsOff, FullAt}
use Rattle.task_sets.specs.laws.Sums.{has_first}

abbrev no_row : Row
no_row = record { est = pos 0; lct = pos 0; energy = pos 0 }

pub bar_is : (rows : List Row) (k : ℕ) → bar_in (map bar_of rows) k ≡ bar_of (row_at rows k)
bar_is [] k = refl
bar_is (r ∷ rows) zero = refl
bar_is (r ∷ rows) (suc k) = bar_is rows k

pub near_at : (rows : List Row) (k : ℕ) → AreRows rows → k < length rows → IsNearRow (row_at rows k)
near_at rows k are within = are.near k no_row within

pub are_bars : (rows : List Row) (bars : List Bar) → AreRows rows → IsByEst rows → bars ≡ map bar_of rows → AreBars bars
are_bars rows bars are by_est is = subst AreBars (sym is) (record {
  few = omega (arith, are.few, length-map rows bar_of);
  small = λ k within. subst IsSmallBar (sym (bar_is rows k)) (small (row_at rows k) (near_at rows k are (omega (arith, within, length-map rows bar_of))));
  in_order = λ j k low within. ordered (bar_in (map bar_of rows) j).est (bar_in (map bar_of rows) k).est (row_at rows j).est (row_at rows k).est (ap (λ (b : Bar). b.est) (bar_is rows j)) (ap (λ (b : Bar). b.est) (bar_is rows k)) (by_est j k low (omega (arith, within, length-map rows bar_of)));
})
  where
    small : (r : Row) → IsNearRow r → IsSmallBar (bar_of r)
    small r near = record { est_from = near.est.0; est_to = near.est.1; energy_from = near.energy_from; energy_to = near.energy_to }

    ordered : (a b c d : ℤ) → a ≡ c → b ≡ d → c ≤ℤ d → a ≤ℤ b
    ordered a b c d h i j = omega (arith, ints, h, i, j)

pub tree_fits : (t : Bars) (rows : List Row) (bars : List Bar) (c : ℤ) (on : List Bool) → bars ≡ map bar_of rows → t ≡ record { bars = bars; capacity = c; on = on } → Fits t rows c
tree_fits t rows bars c on is made = record { bars = ap (λ (u : Bars). u.bars) made ∙ is; capacity = ap (λ (u : Bars). u.capacity) made }

off_in : (n k : ℕ) → slice_index_or (replicate n false) k false ≡ false
off_in zero k = refl
off_in (suc n) zero = refl
off_in (suc n) (suc k) = off_in n k

pub tree_off : (t : Bars) (bars : List Bar) (c : ℤ) (n : ℕ) → t ≡ record { bars = bars; capacity = c; on = replicate n false } → IsOff t
tree_off t bars c n made k = ap (λ (u : Bars). slice_index_or u.on k false) made ∙ off_in n k

pub full_none : (t : Bars) (z : ℤ) → GivesEnvelope t None → FullAt t z false
full_none t z none k ks chosen = let both : true ≡ false = sym (chosen.on k (has_first k ks)) ∙ none k in cc

pub full_some : (t : Bars) (z env : ℤ) (b : Bool) → GivesEnvelope t (Some env) → int_lt z env ≡ b → FullAt t z b
full_some t z env true gives over = (gives.reached.0, gives.reached.1, gives.reached.2, reaches z env _ gives.reached.3 over)
  where
    reaches : (z env r : ℤ) → r ≡ env → int_lt z env ≡ true → z <ℤ r
    reaches z env r is h = let less : z <ℤ env = grind (arith, ints, h) in omega (arith, ints, less, is)
full_some t z env false gives under = λ k ks chosen. below z env _ (gives.greatest k ks chosen) under
  where
    below : (z env r : ℤ) → r ≤ℤ env → int_lt z env ≡ false → r ≤ℤ z
    below z env r h k = let less : env ≤ℤ z = grind (arith, ints, k) in omega (arith, ints, less, h)

pub one_made : (rows : List Row) (made more : List Bar) (n : ℕ) → more ≡ made ++ (bar_of (row_at rows n) ∷ []) → (made ++ map bar_of (drop n rows)) ≡ map bar_of rows → n < length rows
    → (more ++ map bar_of (drop (n + 1) rows)) ≡ map bar_of rows
one_made rows made more n is before within =
    ap (λ ts. ts ++ map bar_of (drop (n + 1) rows)) is ∙ append_assoc made (bar_of (row_at rows n) ∷ []) (map bar_of (drop (n + 1) rows))
    ∙ sym (at_drop_more (λ rest. made ++ map bar_of rest) rows n no_row within) ∙ before

pub all_made : (rows : List Row) (made : List Bar) (n : ℕ) → (made ++ map bar_of (drop n rows)) ≡ map bar_of rows → length rows ≤ n → made ≡ map bar_of rows
all_made rows made n before all = sym (append-nil made) ∙ sym (at_drop_all (λ rest. made ++ map bar_of rest) rows n all) ∙ before
