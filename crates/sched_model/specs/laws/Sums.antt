-- Sums of changes until a moment: of pulses and steps, in any order, and along changes in order of their moments.
use Rattle.std.proofs.Common.{◌≡◌, inl, inr, ℕ, zero, suc, ◌+◌, ◌<◌, ◌≤◌, ℤ, pos, ◌+ℤ◌, ◌≤ℤ◌, ◌<ℤ◌, Bool, true, false, not, cond, List, [], ◌∷◌, ◌++◌, length, map, take, set, get_or, refl, sym, ap, subst, ◌∙◌, arith}
use Rattle.std.specs.Prelude.{int_le, int_lt, slice_get}
use Rattle.std.specs.Ordering.{int_eq, int_cmp, is_lt}
use Rattle.std.specs.List.{swap}
use Rattle.std.specs.List.Sorted.{IsPermutation}
use Rattle.std.proofs.lemmas.Int.{ints}
use Rattle.std.proofs.lemmas.Bool.{cases_eq}
use Rattle.std.proofs.lemmas.List.{take_more, get_or-set_same, get_or-set_other, length-set}
use Rattle.std.proofs.lemmas.List.Sorted.{IsPermutation-keeps}
use Rattle.sched_model.specs.declared.changes.Change.{Change}
use Rattle.sched_model.specs.Words.{passes, total}
use Rattle.sched_model.specs.Cumulative.{between, from_on, signed}
use Rattle.sched_model.specs.Changes.{IsInOrder, change, pulse_changes, rise, sum_until}
use Rattle.sched_model.specs.laws.Totals.{up_down, never_up}

pub pulse_until : (minus : Bool) (u v h t : ℤ) → sum_until t (pulse_changes minus u v h) ≡ signed minus (between u v h t)
pulse_until minus u v h t = decided (int_lt u v) refl
  where
    decided : (b : Bool) → int_lt u v ≡ b → sum_until t (cond b (change u minus h ∷ change v (not minus) h ∷ []) []) ≡ signed minus (between u v h t)
    decided true less = up_down minus u v h t less
    decided false more = never_up minus u v h t more

pub step_until : (minus : Bool) (u h t : ℤ) → sum_until t (change u minus h ∷ []) ≡ signed minus (from_on u h t)
step_until true u h t = grind (arith, ints)
step_until false u h t = grind (arith, ints)

pub until_append : (t : ℤ) (xs ys : List Change) → sum_until t (xs ++ ys) ≡ sum_until t xs +ℤ sum_until t ys
until_append t [] ys = let z : sum_until t ys ≡ pos 0 +ℤ sum_until t ys = omega (arith, ints) in z
until_append t (x ∷ xs) ys = regroup (cond (int_le x.t t) (rise x) (pos 0)) (sum_until t (xs ++ ys)) (sum_until t xs) (sum_until t ys) (until_append t xs ys)
  where
    regroup : (p q r s : ℤ) → q ≡ r +ℤ s → p +ℤ q ≡ (p +ℤ r) +ℤ s
    regroup p q r s h = omega (arith, ints, h)

-- in any order
total_set : (g : Change → ℤ) (cs : List Change) (i : ℕ) (c d : Change) → i < length cs → (total (map g (set cs i c)) +ℤ g (get_or cs i d)) ≡ (total (map g cs) +ℤ g c)
total_set g [] i c d h = absurd (omega (arith, h))
total_set g (x ∷ xs) zero c d h = regroup (g c) (total (map g xs)) (g x)
  where
    regroup : (p q r : ℤ) → (p +ℤ q) +ℤ r ≡ (r +ℤ q) +ℤ p
    regroup p q r = omega (arith, ints)
total_set g (x ∷ xs) (suc i) c d h = regroup (g x) (total (map g (set xs i c))) (g (get_or xs i d)) (total (map g xs)) (g c) (total_set g xs i c d (omega (arith, h)))
  where
    regroup : (p q r s u : ℤ) → q +ℤ r ≡ s +ℤ u → (p +ℤ q) +ℤ r ≡ (p +ℤ s) +ℤ u
    regroup p q r s u e = omega (arith, ints, e)

got : (cs : List Change) (i j : ℕ) (d : Change) → i < length cs → j < length cs → get_or (set cs i (get_or cs j d)) j d ≡ get_or cs j d
got cs i j d in_i in_j = elim (cases_eq j i) [
  | inl same ↦ ap (λ k. get_or (set cs i (get_or cs j d)) k d) same ∙ get_or-set_same cs i (get_or cs j d) d in_i
  | inr other ↦ get_or-set_other cs i j (get_or cs j d) d other
]

total_swap : (g : Change → ℤ) (cs : List Change) (i j : ℕ) → i < length cs → j < length cs → total (map g (swap cs i j)) ≡ total (map g cs)
total_swap g [] i j h k = absurd (omega (arith, h))
total_swap g (d ∷ cs) i j h k =
    let first = total_set g (d ∷ cs) i (get_or (d ∷ cs) j d) d h in
    let within : j < length (set (d ∷ cs) i (get_or (d ∷ cs) j d)) = omega (arith, k, length-set (d ∷ cs) i (get_or (d ∷ cs) j d)) in
    let second = total_set g (set (d ∷ cs) i (get_or (d ∷ cs) j d)) j (get_or (d ∷ cs) i d) d within in
    joined (total (map g (d ∷ cs))) (total (map g (set (d ∷ cs) i (get_or (d ∷ cs) j d)))) (total (map g (swap (d ∷ cs) i j))) (g (get_or (d ∷ cs) i d)) (g (get_or (d ∷ cs) j d)) (g (get_or (set (d ∷ cs) i (get_or (d ∷ cs) j d)) j d)) first second (ap g (got (d ∷ cs) i j d h k))
  where
    joined : (whole once twice x y z : ℤ) → (once +ℤ x) ≡ (whole +ℤ y) → (twice +ℤ z) ≡ (once +ℤ x) → z ≡ y → twice ≡ whole
    joined whole once twice x y z e f same = omega (arith, ints, e, f, same)

pub until_permuted : (t : ℤ) (xs ys : List Change) → IsPermutation xs ys → sum_until t ys ≡ sum_until t xs
until_permuted t xs ys moved = IsPermutation-keeps xs (λ zs. sum_until t zs ≡ sum_until t xs) refl (λ l i j in_i in_j e. total_swap (λ c. cond (int_le c.t t) (rise c) (pos 0)) l i j in_i in_j ∙ e) ys moved

-- the way through sorted changes
pub in_order_from_sort : (cs : List Change) → ((k : ℕ) (d : Change) → 0 ≤ k → k + 1 < length cs → is_lt (int_cmp (get_or cs (k + 1) d).t (get_or cs k d).t) ≡ false) → IsInOrder cs
in_order_from_sort cs sorted k d h = risen _ _ (sorted k d (omega arith) h)
  where
    risen : (x y : ℤ) → is_lt (int_cmp y x) ≡ false → x ≤ℤ y
    risen x y e = grind (arith, ints)

pub order_tail : (c : Change) (cs : List Change) → IsInOrder (c ∷ cs) → IsInOrder cs
order_tail c cs order k d h = subst (λ n. (get_or cs k d).t ≤ℤ (get_or (c ∷ cs) n d).t) (next k) (order (suc k) d (omega (arith, h)))
  where
    next : (k : ℕ) → suc k + 1 ≡ suc (k + 1)
    next k = omega arith

pub first_least : (cs : List Change) (c : Change) → IsInOrder (c ∷ cs) → (k : ℕ) (d : Change) → k < length cs → c.t ≤ℤ (get_or cs k d).t
first_least [] c order k d h = absurd (omega (arith, h))
first_least (x ∷ xs) c order zero d h = order 0 d (omega arith)
first_least (x ∷ xs) c order (suc k) d h = trans _ _ _ (order 0 d (omega arith)) (first_least xs x (order_tail c (x ∷ xs) order) k d (omega (arith, h)))
  where
    trans : (p q r : ℤ) → p ≤ℤ q → q ≤ℤ r → p ≤ℤ r
    trans p q r e f = omega (arith, ints, e, f)

pub until_later : (t : ℤ) (cs : List Change) → ((k : ℕ) (d : Change) → k < length cs → t <ℤ (get_or cs k d).t) → sum_until t cs ≡ pos 0
until_later t [] later = refl
until_later t (c ∷ cs) later = joined _ _ (not_yet t c.t (rise c) (later 0 c (omega arith))) (until_later t cs (λ k d h. later (suc k) d (omega (arith, h))))
  where
    not_yet : (t u z : ℤ) → t <ℤ u → cond (int_le u t) z (pos 0) ≡ pos 0
    not_yet t u z e = grind (arith, ints)

    joined : (p q : ℤ) → p ≡ pos 0 → q ≡ pos 0 → p +ℤ q ≡ pos 0
    joined p q e f = omega (arith, ints, e, f)

-- from the last change of a moment until the next the sum so far is the level
pub summed : (cs : List Change) (i : ℕ) (d : Change) (t : ℤ) → IsInOrder cs → i < length cs → (get_or cs i d).t ≤ℤ t → (i + 1 < length cs → t <ℤ (get_or cs (i + 1) d).t)
    → total (map rise (take (suc i) cs)) ≡ sum_until t cs
summed [] i d t order h here last = absurd (omega (arith, h))
summed (c ∷ cs) zero d t order h here last = now c.t t (rise c) (sum_until t cs) here (until_later t cs (behind cs order last))
  where
    now : (u t z r : ℤ) → u ≤ℤ t → r ≡ pos 0 → z +ℤ pos 0 ≡ cond (int_le u t) z (pos 0) +ℤ r
    now u t z r f e = grind (arith, ints, f, e)

    farther : (p q r : ℤ) → p <ℤ q → q ≤ℤ r → p <ℤ r
    farther p q r e f = omega (arith, ints, e, f)

    behind : (xs : List Change) → IsInOrder (c ∷ xs) → (1 < length (c ∷ xs) → t <ℤ (get_or xs 0 d).t) → (k : ℕ) (e : Change) → k < length xs → t <ℤ (get_or xs k e).t
    behind [] order last k e h = absurd (omega (arith, h))
    behind (x ∷ xs) order last zero e h = last (omega arith)
    behind (x ∷ xs) order last (suc k) e h = farther _ _ _ (last (omega arith)) (first_least xs x (order_tail c (x ∷ xs) order) k e (omega (arith, h)))
summed (c ∷ cs) (suc i) d t order h here last =
    let rest = summed cs i d t (order_tail c cs order) (omega (arith, h)) here (λ k. subst (λ n. t <ℤ (get_or (c ∷ cs) n d).t) (next i) (last (omega (arith, k)))) in
    passed t (get_or cs i d).t c.t (rise c) _ _ here (first_least cs c order i d (omega (arith, h))) rest
  where
    next : (k : ℕ) → suc k + 1 ≡ suc (k + 1)
    next k = omega arith

    passed : (t v u z p q : ℤ) → v ≤ℤ t → u ≤ℤ v → p ≡ q → z +ℤ p ≡ cond (int_le u t) z (pos 0) +ℤ q
    passed t v u z p q f g e = grind (arith, ints, f, g, e)

pub not_at : (cs : List Change) (k : ℕ) (t : ℤ) (d : Change) → false ≡ passes (λ c. int_eq c.t t) (slice_get cs k) → k < length cs → t ≤ℤ (get_or cs k d).t → t <ℤ (get_or cs k d).t
not_at [] k t d e h up = absurd (omega (arith, h))
not_at (c ∷ cs) zero t d e h up = above c.t t e up
  where
    above : (u t : ℤ) → false ≡ int_eq u t → t ≤ℤ u → t <ℤ u
    above u t e up = grind (arith, ints)
not_at (c ∷ cs) (suc k) t d e h up = not_at cs k t d e (omega (arith, h)) up

pub is_next : (cs : List Change) (k : ℕ) (t : ℤ) (d : Change) → true ≡ passes (λ c. int_eq c.t t) (slice_get cs k) → (k < length cs) × ((get_or cs k d).t ≡ t)
is_next [] k t d e = cc
is_next (c ∷ cs) zero t d e = (omega arith, alike c.t t e)
  where
    alike : (u t : ℤ) → true ≡ int_eq u t → u ≡ t
    alike u t e = grind (arith, ints)
is_next (c ∷ cs) (suc k) t d e = let rest = is_next cs k t d e in (let h : k < length cs = rest.0 in omega (arith, h), rest.1)

pub sum_more : (cs : List Change) (i : ℕ) (d : Change) (level next : ℤ) → level ≡ total (map rise (take i cs)) → i < length cs → next ≡ level +ℤ rise (get_or cs i d) → next ≡ total (map rise (take (i + 1) cs))
sum_more cs i d level next before h is = is ∙ ap (λ z. z +ℤ rise (get_or cs i d)) before ∙ sym (ap (λ ys. total (map rise ys)) (take_more cs i d h) ∙ pushed (take i cs) (get_or cs i d))
  where
    pushed : (xs : List Change) (c : Change) → total (map rise (xs ++ c ∷ [])) ≡ total (map rise xs) +ℤ rise c
    pushed [] c = turned (rise c)
      where
        turned : (z : ℤ) → z +ℤ pos 0 ≡ pos 0 +ℤ z
        turned z = omega (arith, ints)
    pushed (x ∷ xs) c = regroup (rise x) _ _ _ (pushed xs c)
      where
        regroup : (p q r s : ℤ) → q ≡ r +ℤ s → p +ℤ q ≡ (p +ℤ r) +ℤ s
        regroup p q r s e = omega (arith, ints, e)
