-- One digit of a rank.
use Rattle.std.specs.Prelude.{◌≡◌, ℕ, zero, suc, ◌+◌, ◌*◌, ◌/◌, ◌%◌, ◌^◌, ◌<◌, ◌≤◌, ℤ, pos, ◌+ℤ◌, ◌-ℤ◌, ◌≤ℤ◌, Bool, true, false, List, [], ◌∷◌, length, map, drop, slice_index_or, Option, Some, None, option_map, option_and_then, unwrap_or, is_some, nat_le, nat_abs, int_le, ◌<ℤ◌}
use Rattle.std.specs.Int.{int_gap, int_max}
use Rattle.std.proofs.Common.{refl, sym, ap, subst, ◌∙◌, arith, cond, get_or}
use Rattle.std.proofs.lemmas.Int.{ints}
use Rattle.base_laws.specs.Digits.{digits}
use Rattle.sched_model.specs.declared.types.Expr.{Expr}
use Rattle.sched_model.specs.Words.{all_of}
use Rattle.sched_model.specs.Ranges.{Ends}
use Rattle.sched_model.specs.Data.{Data}
use Rattle.sched_model.specs.Hull.{hull_of}
use Rattle.sched_model.specs.Rank.{width, weight, ranges_of, values_at}
use Rattle.sched_model.specs.code.Ranks.{limited_weight, weight_of}
use Rattle.std.proofs.lemmas.Nat.{mod_below}
use Rattle.base_laws.specs.laws.Digits.{some}
use Rattle.sched_model.specs.laws.Rank.{gap_up, wide}
use Rattle.std.specs.Prelude.{IfSome}
use Rattle.std.proofs.lemmas.Bool.{true≢false}
use Rattle.std.proofs.lemmas.Bool.Decides.{nat_tests}
use Rattle.sched_model.specs.declared.types.Objective.{Objective}
use Rattle.sched_model.specs.Words.{is_empty}
use Rattle.sched_model.specs.Bounds.{is_small}
use Rattle.sched_model.specs.Valid.{IsValid}
use Rattle.sched_model.specs.Rank.{IsRanked, low_of, unranked, unranked_in, criteria_of}
use Rattle.sched_model.specs.code.Ranks.{count_of}
use Rattle.sched_model.specs.laws.Ranked.{HaveHulls, have_hulls, all_hulls, as_many, AreSmallWeights, small_weights}

-- the digit at a place
at_place : (rs : List Ends) (n i : ℕ) (d : Ends) → i < length rs → slice_index_or (values_at rs (digits (map width rs) n)) i (pos 0) ≡ (get_or rs i d).0 +ℤ pos ((n / weight (drop (i + 1) rs)) % width (get_or rs i d))
at_place [] n i d within = absurd (omega (arith, within))
at_place (r ∷ rs) n zero d within = refl
at_place (r ∷ rs) n (suc i) d within = at_place rs n i d (omega (arith, within)) ∙ ap (λ k. (get_or rs i d).0 +ℤ pos ((n / weight (drop k (r ∷ rs))) % width (get_or rs i d))) (later i)
  where
    later : (i : ℕ) → suc (i + 1) ≡ suc i + 1
    later i = omega arith

hulls_drop : (m : Data) (es : List Expr) (rs : List Ends) (k : ℕ) → HaveHulls m es rs → HaveHulls m (drop k es) (drop k rs)
hulls_drop m es rs zero h = h
hulls_drop m [] [] (suc k) h = tt
hulls_drop m [] (r ∷ rs) (suc k) h = absurd h
hulls_drop m (e ∷ es) [] (suc k) h = absurd h
hulls_drop m (e ∷ es) (r ∷ rs) (suc k) h = hulls_drop m es rs k h.1

hull_there : (m : Data) (es : List Expr) (rs : List Ends) (i : ℕ) (d : Expr) (c : Ends) → HaveHulls m es rs → i < length es → hull_of m (get_or es i d) ≡ Some (get_or rs i c)
hull_there m [] rs i d c h within = absurd (omega (arith, within))
hull_there m (e ∷ es) [] i d c h within = absurd h
hull_there m (e ∷ es) (r ∷ rs) zero d c h within = h.0
hull_there m (e ∷ es) (r ∷ rs) (suc i) d c h within = hull_there m es rs i d c h.1 (omega (arith, within))

weight_is : (n : ℕ) (z : ℤ) → Some z ≡ limited_weight n → nat_abs z ≡ n
weight_is n z h = by_case (nat_le n (2 ^ 62)) h
  where
    by_case : (b : Bool) → Some z ≡ cond b (Some (pos n)) None → nat_abs z ≡ n
    by_case true h = let e : z ≡ pos n = cc h in ap nat_abs e
    by_case false h = cc

same_end : (r s : Ends) → Some r ≡ Some s → r ≡ s
same_end r s h = cc

some_hulls : (o : Option (List Ends)) → is_some o ≡ true → o ≡ Some (unwrap_or o [])
some_hulls None h = cc
some_hulls (Some rs) h = refl

-- the place in the range and the range's low end give the value
pub place_is : (m : Data) (es : List Expr) (low v : ℤ) (i : ℕ) (d : Expr) (r : Ends) (w z : ℤ) (n : ℕ) → i < length es → is_some (all_of (map (hull_of m) es)) ≡ true
    → Some r ≡ hull_of m (get_or es i d) → Some w ≡ weight_of m (drop (i + 1) es) → n ≡ int_gap low v → z ≡ r.0 +ℤ pos ((n / nat_abs w) % width r)
    → z ≡ slice_index_or (values_at (ranges_of m es) (digits (map width (ranges_of m es)) (int_gap low v))) i (pos 0)
place_is m es low v i d r w z n within hulls is weighs n_is value =
    let rs : List Ends = ranges_of m es in
    let have = have_hulls m es rs (some_hulls (all_of (map (hull_of m) es)) hulls) in
    let there : r ≡ get_or rs i r = same_end r (get_or rs i r) (is ∙ hull_there m es rs i d r have within) in
    let w_is : nat_abs w ≡ weight (drop (i + 1) rs) = weight_is (weight (drop (i + 1) rs)) w (weighs ∙ ap (λ o. option_and_then (λ xs. limited_weight (1 * weight xs)) o) (all_hulls m (drop (i + 1) es) (drop (i + 1) rs) (hulls_drop m es rs (i + 1) have)) ∙ ap limited_weight (once (weight (drop (i + 1) rs)))) in
    value
    ∙ ap (λ x. r.0 +ℤ pos ((x / nat_abs w) % width r)) n_is
    ∙ ap (λ x. r.0 +ℤ pos ((int_gap low v / x) % width r)) w_is
    ∙ ap (λ (x : Ends). x.0 +ℤ pos ((int_gap low v / weight (drop (i + 1) rs)) % width x)) there
    ∙ sym (at_place rs (int_gap low v) i r (subst (λ k. i < k) (as_many m es rs have) within))
  where
    once : (n : ℕ) → 1 * n ≡ n
    once n = omega arith

pub not_above : (low v : ℤ) → v <ℤ low → 0 ≡ int_gap low v
not_above low v h = grind (arith, ints)

pub above_by : (low v : ℤ) (n : ℕ) → low ≤ℤ v → pos n ≡ v -ℤ low → n ≡ int_gap low v
above_by low v n h is = let up = gap_up low v h in omega (arith, ints, up, is)

pub place_below : (r : Ends) (n w g p : ℕ) → g ≡ width r → p ≡ (n / w) % g → p < width r
place_below r n w g p wide is = subst (λ x. x < width r) (sym (is ∙ ap (λ x. (n / w) % x) wide)) (mod_below (n / w) (width r) (some_width r))
  where
    some_width : (r : Ends) → 0 < width r
    some_width r = omega arith

-- so the number lies in the range, or is its low end
pub place_fits : (r : Ends) (p : ℕ) → p < width r → (r.0 +ℤ pos p) ≤ℤ int_max r.0 r.1
place_fits r p less = by_case r.0 r.1 (int_le r.0 r.1) refl less
  where
    le_is : (a b : ℤ) → int_le a b ≡ true → a ≤ℤ b
    le_is a b h = grind (arith, ints)

    gt_is : (a b : ℤ) → int_le a b ≡ false → b <ℤ a
    gt_is a b h = grind (arith, ints)

    none : (a b : ℤ) → b <ℤ a → int_gap a b ≡ 0
    none a b h = grind (arith, ints)

    up : (a b : ℤ) → a ≤ℤ int_max a b
    up a b = grind (arith, ints)

    also : (a b : ℤ) → b ≤ℤ int_max a b
    also a b = grind (arith, ints)

    by_case : (a b : ℤ) (c : Bool) → int_le a b ≡ c → p < int_gap a b + 1 → (a +ℤ pos p) ≤ℤ int_max a b
    by_case a b true is less = let g = gap_up a b (le_is a b is) in let m = also a b in omega (arith, ints, g, m, less)
    by_case a b false is less = let g = none a b (gt_is a b is) in let m = up a b in omega (arith, ints, g, m, less)

pub hull_missing : (m : Data) (es : List Expr) (i : ℕ) (d : Expr) → is_some (all_of (map (hull_of m) es)) ≡ true → i < length es → hull_of m (get_or es i d) ≡ None → ⊥
hull_missing m es i d hulls within none =
    let have = have_hulls m es (ranges_of m es) (some_hulls (all_of (map (hull_of m) es)) hulls) in
    apart (sym none ∙ hull_there m es (ranges_of m es) i d (pos 0, pos 0) have within)
  where
    apart : {x : Ends} → None ≡ Some x → ⊥
    apart h = cc

pub some_weight : (m : Data) (es : List Expr) (z : ℤ) → Some z ≡ weight_of m es → 0 < nat_abs z
some_weight m es z h = by_hulls (all_of (map (hull_of m) es)) h
  where
    one : (n : ℕ) → 1 ≤ n → 0 < 1 * n
    one n h = omega (arith, h)

    by_number : (n : ℕ) → 0 < n → (b : Bool) → Some z ≡ cond b (Some (pos n)) None → 0 < nat_abs z
    by_number n some true h = let e : z ≡ pos n = cc h in subst (λ x. 0 < nat_abs x) (sym e) some
    by_number n some false h = cc

    by_hulls : (o : Option (List Ends)) → Some z ≡ option_and_then (λ rs. limited_weight (1 * weight rs)) o → 0 < nat_abs z
    by_hulls None h = cc
    by_hulls (Some rs) h = by_number (1 * weight rs) (one (weight rs) (some (map width rs) (wide rs))) (nat_le (1 * weight rs) (2 ^ 62)) h

-- the weight of each criterion is there
small_rest : (m : Data) (es : List Expr) (rs : List Ends) (i : ℕ) → HaveHulls m es rs → AreSmallWeights rs → i < length es → is_some (weight_of m (drop (i + 1) es)) ≡ true
small_rest m [] rs i h k within = absurd (omega (arith, within))
small_rest m (e ∷ es) [] i h k within = absurd h
small_rest m (e ∷ es) (r ∷ rs) zero h k within =
    ap (λ o. is_some (option_and_then (λ xs. limited_weight (1 * weight xs)) o)) (all_hulls m es rs h.1) ∙ there (1 * weight rs) (once (weight rs) k.0)
  where
    once : (n : ℕ) → is_small (pos n) ≡ true → 1 * n ≤ 2 ^ 62
    once n h = few n h
      where
        few : (n : ℕ) → is_small (pos n) ≡ true → 1 * n ≤ 2 ^ 62
        few n h = grind (arith, ints, nat_tests)

    there : (n : ℕ) → n ≤ 2 ^ 62 → is_some (limited_weight n) ≡ true
    there n h = ap (λ b. is_some (cond b (Some (pos n)) None)) (at_most n h)
      where
        at_most : (n : ℕ) → n ≤ 2 ^ 62 → nat_le n (2 ^ 62) ≡ true
        at_most n h = grind (arith, nat_tests)
small_rest m (e ∷ es) (r ∷ rs) (suc i) h k within = ap (λ n. is_some (weight_of m (drop n (e ∷ es)))) (later i) ∙ small_rest m es rs i h.1 k.1 (omega (arith, within))
  where
    later : (i : ℕ) → suc i + 1 ≡ suc (i + 1)
    later i = omega arith

-- the value of an objective without criteria
pub plain_value : (m : Data) (o : Objective) (v : ℤ) (i : ℕ) → true ≡ is_empty o.criteria → i < length (criteria_of o) → v ≡ slice_index_or (unranked m o v) i (pos 0)
plain_value m o v i none within = sym (ap (λ xs. slice_index_or xs i (pos 0)) (ap (λ b. cond b (v ∷ []) (values_at (ranges_of m o.criteria) (digits (map width (ranges_of m o.criteria)) (int_gap (low_of m o.expr) v)))) (sym none)) ∙ first i (subst (λ n. i < n) (ap (λ b. length (cond b (o.expr ∷ []) o.criteria)) (sym none)) within))
  where
    first : (i : ℕ) → i < 1 → slice_index_or (v ∷ []) i (pos 0) ≡ v
    first zero h = refl
    first (suc i) h = absurd (omega (arith, h))

-- with criteria
pub more_there : (o : Objective) (i : ℕ) → false ≡ is_empty o.criteria → i < length (criteria_of o) → i < length o.criteria
more_there o i more within = subst (λ n. i < n) (ap (λ b. length (cond b (o.expr ∷ []) o.criteria)) (sym more)) within

pub weight_there : (m : Data) (o : Objective) (h : Ends) (i : ℕ) → IsRanked m o → false ≡ is_empty o.criteria → Some h ≡ hull_of m o.expr → i < length (criteria_of o) → is_some (weight_of m (drop (i + 1) o.criteria)) ≡ true
weight_there m o h i ranked more is within = let w = small_weights m o h ranked (sym more) (sym is) in small_rest m o.criteria w.0 i w.1 w.2 (more_there o i more within)

pub value_there : (m : Data) (o : Objective) (h : Ends) (v z : ℤ) (i : ℕ) → false ≡ is_empty o.criteria → Some h ≡ hull_of m o.expr
    → z ≡ slice_index_or (values_at (ranges_of m o.criteria) (digits (map width (ranges_of m o.criteria)) (int_gap h.0 v))) i (pos 0) → z ≡ slice_index_or (unranked m o v) i (pos 0)
value_there m o h v z i more is value =
    value
    ∙ ap (λ q. slice_index_or (values_at (ranges_of m o.criteria) (digits (map width (ranges_of m o.criteria)) (int_gap (let x : Ends = unwrap_or q (pos 0, pos 0) in x.0) v))) i (pos 0)) is
    ∙ ap (λ b. slice_index_or (cond b (v ∷ []) (values_at (ranges_of m o.criteria) (digits (map width (ranges_of m o.criteria)) (int_gap (low_of m o.expr) v)))) i (pos 0)) more

pub hull_is_there : (m : Data) (e : Expr) → is_some (hull_of m e) ≡ true → None ≡ hull_of m e → ⊥
hull_is_there m e some none = true≢false (sym some ∙ ap is_some (sym none))

-- The objective of a model.

pub objective_there : (m : Data) (i : ℕ) → i < count_of m.objective → None ≡ m.objective → ⊥
objective_there m i below none = absurd (omega (arith, subst (λ o. i < count_of o) (sym none) below))

pub objective_ranked : (m : Data) (o : Objective) → IsValid m → Some o ≡ m.objective → IsRanked m o
objective_ranked m o valid there = subst (λ q. IfSome q (IsRanked m)) (sym there) valid.criteria

pub counted_there : (m : Data) (o : Objective) (i : ℕ) → Some o ≡ m.objective → i < count_of m.objective → i < length (criteria_of o)
counted_there m o i there below = subst (λ n. i < n) (counted (is_empty o.criteria)) (subst (λ q. i < count_of q) (sym there) below)
  where
    counted : (b : Bool) → cond b 1 (length o.criteria) ≡ length (cond b (o.expr ∷ []) o.criteria)
    counted true = refl
    counted false = refl

pub unranked_there : (m : Data) (o : Objective) (v z : ℤ) (i : ℕ) → Some o ≡ m.objective → z ≡ slice_index_or (unranked m o v) i (pos 0) → z ≡ slice_index_or (unranked_in m v) i (pos 0)
unranked_there m o v z i there is = is ∙ ap (λ q. slice_index_or (unwrap_or (option_map (λ p. unranked m p v) q) []) i (pos 0)) there
