-- Loads in any order of the rows.
use Rattle.std.proofs.Common.{◌≡◌, ℕ, zero, suc, ◌<◌, ℤ, ◌+ℤ◌, List, [], ◌∷◌, length, map, set, get_or, refl, ap, ◌∙◌, inl, inr, arith, length-set}
use Rattle.std.specs.List.{swap}
use Rattle.std.specs.List.Sorted.{IsPermutation}
use Rattle.std.proofs.lemmas.Int.{ints}
use Rattle.std.proofs.lemmas.Bool.{cases_eq}
use Rattle.std.proofs.lemmas.List.{get_or-set_same, get_or-set_other}
use Rattle.std.proofs.lemmas.List.Sorted.{IsPermutation-keeps}
use Rattle.sched_model.specs.Words.{total}
use Rattle.energy_pass.specs.declared.rows.Row.{Row}
use Rattle.energy_pass.specs.code.Rows.{energy_in, load}

total_set : (g : Row → ℤ) (cs : List Row) (i : ℕ) (c d : Row) → i < length cs → (total (map g (set cs i c)) +ℤ g (get_or cs i d)) ≡ (total (map g cs) +ℤ g c)
total_set g [] i c d h = absurd (omega (arith, h))
total_set g (x ∷ xs) zero c d h = regroup (g c) (total (map g xs)) (g x)
  where
    regroup : (p q r : ℤ) → (p +ℤ q) +ℤ r ≡ (r +ℤ q) +ℤ p
    regroup p q r = omega (arith, ints)
total_set g (x ∷ xs) (suc i) c d h = regroup (g x) (total (map g (set xs i c))) (g (get_or xs i d)) (total (map g xs)) (g c) (total_set g xs i c d (omega (arith, h)))
  where
    regroup : (p q r s u : ℤ) → q +ℤ r ≡ s +ℤ u → (p +ℤ q) +ℤ r ≡ (p +ℤ s) +ℤ u
    regroup p q r s u e = omega (arith, ints, e)

got : (cs : List Row) (i j : ℕ) (d : Row) → i < length cs → j < length cs → get_or (set cs i (get_or cs j d)) j d ≡ get_or cs j d
got cs i j d in_i in_j = elim (cases_eq j i) [
  | inl same ↦ ap (λ k. get_or (set cs i (get_or cs j d)) k d) same ∙ get_or-set_same cs i (get_or cs j d) d in_i
  | inr other ↦ get_or-set_other cs i j (get_or cs j d) d other
]

total_swap : (g : Row → ℤ) (cs : List Row) (i j : ℕ) → i < length cs → j < length cs → total (map g (swap cs i j)) ≡ total (map g cs)
total_swap g [] i j h k = absurd (omega (arith, h))
total_swap g (d ∷ cs) i j h k =
    let first = total_set g (d ∷ cs) i (get_or (d ∷ cs) j d) d h in
    let within : j < length (set (d ∷ cs) i (get_or (d ∷ cs) j d)) = omega (arith, k, length-set (d ∷ cs) i (get_or (d ∷ cs) j d)) in
    let second = total_set g (set (d ∷ cs) i (get_or (d ∷ cs) j d)) j (get_or (d ∷ cs) i d) d within in
    joined (total (map g (d ∷ cs))) (total (map g (set (d ∷ cs) i (get_or (d ∷ cs) j d)))) (total (map g (swap (d ∷ cs) i j))) (g (get_or (d ∷ cs) i d)) (g (get_or (d ∷ cs) j d)) (g (get_or (set (d ∷ cs) i (get_or (d ∷ cs) j d)) j d)) first second (ap g (got (d ∷ cs) i j d h k))
  where
    joined : (whole once twice x y z : ℤ) → (once +ℤ x) ≡ (whole +ℤ y) → (twice +ℤ z) ≡ (once +ℤ x) → z ≡ y → twice ≡ whole
    joined whole once twice x y z e f same = omega (arith, ints, e, f, same)

pub load_moved : (start end : ℤ) (xs ys : List Row) → IsPermutation xs ys → load ys start end ≡ load xs start end
load_moved start end xs ys moved = IsPermutation-keeps xs (λ zs. load zs start end ≡ load xs start end) refl (λ l i j in_i in_j e. total_swap (energy_in start end) l i j in_i in_j ∙ e) ys moved
