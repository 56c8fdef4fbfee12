-- The rank of the criteria of an objective: its value, its hull, the values that it gives back, and that it is better exactly where
-- the first criterion is that differs.
use Rattle.std.specs.Prelude.{is_some, int_lt, unwrap_or, ◌+◌, ◌*◌}
use Rattle.std.proofs.Common.{◌≡◌, ℕ, ℤ, pos, ◌+ℤ◌, ◌*ℤ◌, ◌≤ℤ◌, Bool, true, false, ◌&&◌, ◌||◌, List, [], ◌∷◌, length, map, Option, Some, None, option_map, option_and_then, cond, refl, sym, ap, subst, ◌∙◌, arith}
use Rattle.std.specs.Int.{int_max, int_min, int_gap}
use Rattle.std.specs.Ordering.{int_eq}
use Rattle.std.specs.List.{list_all}
use Rattle.std.proofs.lemmas.Int.{ints}
use Rattle.std.proofs.lemmas.Option.{cond_some, option_and_then_some}
use Rattle.std.proofs.Math.IntN.{*ℤ_comm, *ℤ-one}
use Rattle.base_laws.specs.Digits.{digits}
use Rattle.sched_model.specs.declared.types.Assignment.{Assignment}
use Rattle.sched_model.specs.declared.types.Sense.{Sense}
use Rattle.sched_model.specs.declared.types.Sense.TheVariants.{Minimize, Maximize}
use Rattle.sched_model.specs.declared.types.Objective.{Objective}
use Rattle.sched_model.specs.declared.types.Expr.{Expr, roll-Expr}
use Rattle.sched_model.specs.declared.types.Expr.TheOpen.{Expr-F as expr}
use Rattle.sched_model.specs.declared.types.Expr.TheFolds.{fold-roll-Expr}
use Rattle.sched_model.specs.Words.{all_of, is_empty, placewise, total, product}
use Rattle.sched_model.specs.Data.{Data}
use Rattle.sched_model.specs.Bounds.{is_small}
use Rattle.sched_model.specs.Domain.{fits_def}
use Rattle.sched_model.specs.Ranges.{Ends, lows, highs, times_range, product_range, total_range}
use Rattle.sched_model.specs.Hull.{limited, hull_step, hull_of}
use Rattle.sched_model.specs.Value.{value_step, value_of}
use Rattle.sched_model.specs.Solution.{beats}
use Rattle.sched_model.specs.Valid.{is_interval_def}
use Rattle.sched_model.specs.Rank.{width, weight, ranges_of, times, weighted, values_of, comes_first, beats_first, values_at, low_of, unranked, IsRanked}
use Rattle.sched_model.specs.laws.Within.{Within, AllWithin, rises}
use Rattle.sched_model.specs.laws.Held.{value_within, all_of_first}
use Rattle.sched_model.specs.laws.Ordered.{IsOrdered, hull_ordered}
use Rattle.sched_model.specs.laws.Rank.{weighed, AreOrdered, values_in, unranked_told, rank_order, numbers_order}

-- each expression has its hull
abbrev pub HaveHulls : Data → List Expr → List Ends → Type 0
HaveHulls m [] [] = Unit {0}
HaveHulls m (e ∷ es) (r ∷ rs) = (hull_of m e ≡ Some r) × HaveHulls m es rs
HaveHulls m [] (r ∷ rs) = ⊥
HaveHulls m (e ∷ es) [] = ⊥

pub have_hulls : (m : Data) (es : List Expr) (rs : List Ends) → all_of (map (hull_of m) es) ≡ Some rs → HaveHulls m es rs
have_hulls m [] rs h = let e : [] ≡ rs = cc in subst (λ xs. HaveHulls m [] xs) e tt
have_hulls m (e ∷ es) rs h =
    let w = all_of_first (hull_of m e) (map (hull_of m) es) rs h in
    subst (λ xs. HaveHulls m (e ∷ es) xs) w.4 (w.2, have_hulls m es w.1 w.3)

pub all_hulls : (m : Data) (es : List Expr) (rs : List Ends) → HaveHulls m es rs → all_of (map (hull_of m) es) ≡ Some rs
all_hulls m [] [] h = refl
all_hulls m [] (r ∷ rs) h = absurd h
all_hulls m (e ∷ es) [] h = absurd h
all_hulls m (e ∷ es) (r ∷ rs) h = ap (λ o. all_of (o ∷ map (hull_of m) es)) h.0 ∙ ap (λ o. option_map (λ xs. r ∷ xs) o) (all_hulls m es rs h.1)

pub are_ordered : (m : Data) → list_all is_interval_def m.intervals ≡ true → (es : List Expr) (rs : List Ends) → HaveHulls m es rs → AreOrdered rs
are_ordered m valid [] [] h = tt
are_ordered m valid [] (r ∷ rs) h = absurd h
are_ordered m valid (e ∷ es) [] h = absurd h
are_ordered m valid (e ∷ es) (r ∷ rs) h = (hull_ordered m valid e r h.0, are_ordered m valid es rs h.1)

pub all_within : (m : Data) (a : Assignment) → placewise fits_def m.intervals a.slots ≡ true → (es : List Expr) (rs : List Ends) → HaveHulls m es rs → AllWithin rs (map (value_of a) es)
all_within m a fits [] [] h = tt
all_within m a fits [] (r ∷ rs) h = absurd h
all_within m a fits (e ∷ es) [] h = absurd h
all_within m a fits (e ∷ es) (r ∷ rs) h = (value_within m a e r fits h.0, all_within m a fits es rs h.1)

one_by : (z : ℤ) → pos 1 *ℤ z ≡ z
unfolding lib.IntN.one
one_by z = *ℤ_comm (pos 1) z ∙ *ℤ-one z

-- The value of a rank.

times_value : (a : Assignment) (e : Expr) (w : ℕ) → value_of a (times e w) ≡ pos w *ℤ value_of a e
times_value a e w =
    fold-roll-Expr ℤ (value_step a) (expr.Product (e ∷ roll-Expr (expr.Lit (pos w)) ∷ []))
    ∙ ap (λ z. product (value_of a e ∷ z ∷ [])) (fold-roll-Expr ℤ (value_step a) (expr.Lit (pos w)))
    ∙ ap (λ z. z *ℤ pos w) (one_by (value_of a e))
    ∙ *ℤ_comm (value_of a e) (pos w)

weighted_value : (m : Data) (a : Assignment) (es : List Expr) (rs : List Ends) → HaveHulls m es rs → total (map (value_of a) (weighted rs es)) ≡ weighed rs (map (value_of a) es)
weighted_value m a [] [] h = refl
weighted_value m a [] (r ∷ rs) h = absurd h
weighted_value m a (e ∷ es) [] h = absurd h
weighted_value m a (e ∷ es) (r ∷ rs) h =
    ap (λ z. z +ℤ total (map (value_of a) (weighted rs es))) (times_value a e (weight rs)) ∙ ap (λ z. (pos (weight rs) *ℤ value_of a e) +ℤ z) (weighted_value m a es rs h.1)

pub sum_value : (m : Data) (a : Assignment) (es : List Expr) (rs : List Ends) → HaveHulls m es rs → value_of a (roll-Expr (expr.Sum (weighted rs es))) ≡ weighed rs (map (value_of a) es)
sum_value m a es rs h = fold-roll-Expr ℤ (value_step a) (expr.Sum (weighted rs es)) ∙ weighted_value m a es rs h

-- Its hull.

limited_small : (z : ℤ) (r : Ends) → limited (z, z) ≡ Some r → is_small z ≡ true
unfolding limited
limited_small z r h = first (is_small z) (cond_some _ (z, z) r h).0
  where
    first : (b : Bool) → (b && b) ≡ true → b ≡ true
    first true h = refl
    first false h = h

limited_is : (x r : Ends) → limited x ≡ Some r → x ≡ r
unfolding limited
limited_is x r h = (cond_some _ x r h).1

pair_is : (r s : Ends) → r.0 ≡ s.0 → r.1 ≡ s.1 → r ≡ s
pair_is r s h i = ap (λ z. let e : Ends = (z, r.1) in e) h ∙ ap (λ z. let e : Ends = (s.0, z) in e) i

least_of : (a b c d l : ℤ) → a ≡ l → b ≡ l → l ≤ℤ c → l ≤ℤ d → int_min (int_min (int_min a b) c) d ≡ l
least_of a b c d l h i j k = grind (arith, ints)

greatest_of : (a b c d l : ℤ) → a ≤ℤ l → b ≤ℤ l → c ≡ l → d ≡ l → int_max (int_max (int_max a b) c) d ≡ l
greatest_of a b c d l h i j k = grind (arith, ints)

by_one : (r : Ends) → IsOrdered r → times_range (pos 1, pos 1) r ≡ r
by_one r h = pair_is _ _ (low r.0 r.1 (pos 1 *ℤ r.0) (pos 1 *ℤ r.1) h (one_by r.0) (one_by r.1)) (high r.0 r.1 (pos 1 *ℤ r.0) (pos 1 *ℤ r.1) h (one_by r.0) (one_by r.1))
  where
    low : (a b x y : ℤ) → a ≤ℤ b → x ≡ a → y ≡ b → int_min (int_min (int_min x y) x) y ≡ a
    low a b x y h i j = grind (arith, ints)

    high : (a b x y : ℤ) → a ≤ℤ b → x ≡ a → y ≡ b → int_max (int_max (int_max x y) x) y ≡ b
    high a b x y h i j = grind (arith, ints)

by_weight : (r : Ends) (w : ℕ) → IsOrdered r → times_range r (pos w, pos w) ≡ (pos w *ℤ r.0, pos w *ℤ r.1)
by_weight r w h =
    let up = rises w r.0 r.1 h in
    let a = *ℤ_comm r.0 (pos w) in
    let b = *ℤ_comm r.1 (pos w) in
    pair_is _ _ (low (r.0 *ℤ pos w) (r.1 *ℤ pos w) (pos w *ℤ r.0) (pos w *ℤ r.1) a b up) (high (r.0 *ℤ pos w) (r.1 *ℤ pos w) (pos w *ℤ r.0) (pos w *ℤ r.1) a b up)
  where
    low : (x y a b : ℤ) → x ≡ a → y ≡ b → a ≤ℤ b → int_min (int_min (int_min x x) y) y ≡ a
    low x y a b h i j = grind (arith, ints)

    high : (x y a b : ℤ) → x ≡ a → y ≡ b → a ≤ℤ b → int_max (int_max (int_max x x) y) y ≡ b
    high x y a b h i j = grind (arith, ints)

times_hull : (m : Data) (e : Expr) (w : ℕ) (r t : Ends) → hull_of m e ≡ Some r → IsOrdered r → hull_of m (times e w) ≡ Some t → t ≡ (pos w *ℤ r.0, pos w *ℤ r.1)
times_hull m e w r t is order h =
    by_literal (limited (pos w, pos w)) refl
    (sym (fold-roll-Expr (Option Ends) (hull_step m) (expr.Product (e ∷ roll-Expr (expr.Lit (pos w)) ∷ []))
    ∙ ap (λ o. option_and_then (λ rs. limited (product_range rs)) (all_of (o ∷ hull_of m (roll-Expr (expr.Lit (pos w))) ∷ []))) is
    ∙ ap (λ o. option_and_then (λ rs. limited (product_range rs)) (all_of (Some r ∷ o ∷ []))) (fold-roll-Expr (Option Ends) (hull_step m) (expr.Lit (pos w)))) ∙ h)
  where
    by_literal : (o : Option Ends) → limited (pos w, pos w) ≡ o → option_and_then (λ rs. limited (product_range rs)) (all_of (Some r ∷ o ∷ [])) ≡ Some t → t ≡ (pos w *ℤ r.0, pos w *ℤ r.1)
    by_literal None lit h = cc
    by_literal (Some q) lit h =
        sym (limited_is (product_range (r ∷ q ∷ [])) t h)
        ∙ ap (λ x. times_range x q) (by_one r order)
        ∙ ap (times_range r) (sym (limited_is (pos w, pos w) q lit))
        ∙ by_weight r w order

weighted_hulls : (m : Data) (es : List Expr) (rs ts : List Ends) → HaveHulls m es rs → AreOrdered rs → HaveHulls m (weighted rs es) ts → (total (lows ts) ≡ weighed rs (lows rs)) × (total (highs ts) ≡ weighed rs (highs rs))
weighted_hulls m [] [] [] h order k = (refl, refl)
weighted_hulls m [] [] (t ∷ ts) h order k = absurd k
weighted_hulls m [] (r ∷ rs) ts h order k = absurd h
weighted_hulls m (e ∷ es) [] ts h order k = absurd h
weighted_hulls m (e ∷ es) (r ∷ rs) [] h order k = absurd k
weighted_hulls m (e ∷ es) (r ∷ rs) (t ∷ ts) h order k =
    let one = times_hull m e (weight rs) r t h.0 order.0 k.0 in
    let rest = weighted_hulls m es rs ts h.1 order.1 k.1 in
    (ap (λ x. x.0 +ℤ total (lows ts)) one ∙ ap (λ z. (pos (weight rs) *ℤ r.0) +ℤ z) rest.0, ap (λ x. x.1 +ℤ total (highs ts)) one ∙ ap (λ z. (pos (weight rs) *ℤ r.1) +ℤ z) rest.1)

-- from the least rank to the greatest
abbrev pub ranks : List Ends → Ends
ranks rs = (weighed rs (lows rs), weighed rs (highs rs))

pub sum_hull : (m : Data) (es : List Expr) (rs : List Ends) (h : Ends) → HaveHulls m es rs → AreOrdered rs → hull_of m (roll-Expr (expr.Sum (weighted rs es))) ≡ Some h → h ≡ ranks rs
sum_hull m es rs h hulls order is =
    option_and_then_some _ (all_of (map (hull_of m) (weighted rs es))) h (sym (fold-roll-Expr (Option Ends) (hull_step m) (expr.Sum (weighted rs es))) ∙ is)
    (λ ts parts limit. let sums = weighted_hulls m es rs ts hulls order (have_hulls m (weighted rs es) ts parts) in
    sym (limited_is (total_range ts) h limit) ∙ pair_is (total_range ts) (ranks rs) sums.0 sums.1)

-- The criteria of an objective.

-- the hulls of the criteria, with what is known of them
pub record Ranges (m : Data) (o : Objective) (h : Ends) : Type 0 where
  pub rs : List Ends
  pub are : ranges_of m o.criteria ≡ rs
  pub hulls : HaveHulls m o.criteria rs
  pub ordered : AreOrdered rs
  pub expr : o.expr ≡ roll-Expr (expr.Sum (weighted rs o.criteria))
  pub hull : h ≡ ranks rs

pub ranges : (m : Data) (o : Objective) (h : Ends) → list_all is_interval_def m.intervals ≡ true → IsRanked m o → is_empty o.criteria ≡ false → hull_of m o.expr ≡ Some h → Ranges m o h
ranges m o h valid ranked more is = by_hulls (all_of (map (hull_of m) o.criteria)) refl ranked.hulls
  where
    by_hulls : (w : Option (List Ends)) → all_of (map (hull_of m) o.criteria) ≡ w → is_some w ≡ true → Ranges m o h
    by_hulls None none some = cc
    by_hulls (Some rs) are some =
        let same : ranges_of m o.criteria ≡ rs = ap (λ w. unwrap_or w []) are in
        let hulls = have_hulls m o.criteria rs are in
        let order = are_ordered m valid o.criteria rs hulls in
        let form : o.expr ≡ roll-Expr (expr.Sum (weighted rs o.criteria)) = ranked.rank more ∙ ap (λ xs. roll-Expr (expr.Sum (weighted xs o.criteria))) same in
        record { rs = rs; are = same; hulls = hulls; ordered = order; expr = form; hull = sum_hull m o.criteria rs h hulls order (sym (ap (hull_of m) form) ∙ is) }

value_at_ranks : (m : Data) (o : Objective) (h : Ends) (a : Assignment) (k : Ranges m o h) → value_of a o.expr ≡ weighed k.rs (map (value_of a) o.criteria)
value_at_ranks m o h a k = ap (value_of a) k.expr ∙ sum_value m a o.criteria k.rs k.hulls

pub unranked_is : (m : Data) (o : Objective) (h : Ends) (v : ℤ) (k : Ranges m o h) → is_empty o.criteria ≡ false → hull_of m o.expr ≡ Some h → unranked m o v ≡ values_in k.rs v
unranked_is m o h v k more is =
    ap (λ b. cond b (v ∷ []) (values_at (ranges_of m o.criteria) (digits (map width (ranges_of m o.criteria)) (int_gap (low_of m o.expr) v)))) more
    ∙ ap (λ rs. values_at rs (digits (map width rs) (int_gap (low_of m o.expr) v))) k.are
    ∙ ap (λ w. values_at k.rs (digits (map width k.rs) (int_gap (let x : Ends = unwrap_or w (pos 0, pos 0) in x.0) v))) is
    ∙ ap (λ x. values_at k.rs (digits (map width k.rs) (int_gap x.0 v))) k.hull

-- the law: of the value of an assignment the criteria's values are given back
pub values_given_back : (m : Data) (o : Objective) (h : Ends) (a : Assignment) → list_all is_interval_def m.intervals ≡ true → IsRanked m o → hull_of m o.expr ≡ Some h → placewise fits_def m.intervals a.slots ≡ true
    → unranked m o (value_of a o.expr) ≡ values_of a o
values_given_back m o h a valid ranked is fits = by_case (is_empty o.criteria) refl
  where
    by_case : (b : Bool) → is_empty o.criteria ≡ b → unranked m o (value_of a o.expr) ≡ values_of a o
    by_case true none = ap (λ b. cond b (value_of a o.expr ∷ []) (values_at (ranges_of m o.criteria) (digits (map width (ranges_of m o.criteria)) (int_gap (low_of m o.expr) (value_of a o.expr))))) none
        ∙ sym (ap (λ b. map (value_of a) (cond b (o.expr ∷ []) o.criteria)) none)
    by_case false more =
        let k = ranges m o h valid ranked more is in
        unranked_is m o h (value_of a o.expr) k more is
        ∙ ap (values_in k.rs) (value_at_ranks m o h a k)
        ∙ unranked_told k.rs (map (value_of a) o.criteria) (all_within m a fits o.criteria k.rs k.hulls)
        ∙ sym (ap (λ b. map (value_of a) (cond b (o.expr ∷ []) o.criteria)) more)

alone : (y z : ℤ) → comes_first (y ∷ []) (z ∷ []) ≡ int_lt y z
alone y z = nothing_more (int_lt y z) (int_eq y z)
  where
    nothing_more : (p q : Bool) → (p || (q && false)) ≡ p
    nothing_more true q = refl
    nothing_more false true = refl
    nothing_more false false = refl

-- the law: the value of an assignment is less exactly where the first criterion is that differs
pub values_order : (m : Data) (o : Objective) (h : Ends) (a b : Assignment) → list_all is_interval_def m.intervals ≡ true → IsRanked m o → hull_of m o.expr ≡ Some h
    → placewise fits_def m.intervals a.slots ≡ true → placewise fits_def m.intervals b.slots ≡ true → int_lt (value_of a o.expr) (value_of b o.expr) ≡ comes_first (values_of a o) (values_of b o)
values_order m o h a b valid ranked is fits also = by_case (is_empty o.criteria) refl
  where
    by_case : (c : Bool) → is_empty o.criteria ≡ c → int_lt (value_of a o.expr) (value_of b o.expr) ≡ comes_first (values_of a o) (values_of b o)
    by_case true none = sym (ap (λ c. comes_first (map (value_of a) (cond c (o.expr ∷ []) o.criteria)) (map (value_of b) (cond c (o.expr ∷ []) o.criteria))) none ∙ alone (value_of a o.expr) (value_of b o.expr))
    by_case false more =
        let k = ranges m o h valid ranked more is in
        ap (λ z. int_lt z (value_of b o.expr)) (value_at_ranks m o h a k) ∙ ap (λ z. int_lt (weighed k.rs (map (value_of a) o.criteria)) z) (value_at_ranks m o h b k)
        ∙ rank_order k.rs (map (value_of a) o.criteria) (map (value_of b) o.criteria) (all_within m a fits o.criteria k.rs k.hulls) (all_within m b also o.criteria k.rs k.hulls)
        ∙ sym (ap (λ c. comes_first (map (value_of a) (cond c (o.expr ∷ []) o.criteria)) (map (value_of b) (cond c (o.expr ∷ []) o.criteria))) more)

-- so a better value is one that is better on the first criterion that differs
pub better_values : (m : Data) (o : Objective) (h : Ends) (a b : Assignment) → list_all is_interval_def m.intervals ≡ true → IsRanked m o → hull_of m o.expr ≡ Some h
    → placewise fits_def m.intervals a.slots ≡ true → placewise fits_def m.intervals b.slots ≡ true → beats o.sense (value_of a o.expr) (value_of b o.expr) ≡ beats_first o.sense (values_of a o) (values_of b o)
better_values m o h a b valid ranked is fits also = by_sense o.sense
  where
    by_sense : (s : Sense) → beats s (value_of a o.expr) (value_of b o.expr) ≡ beats_first s (values_of a o) (values_of b o)
    by_sense Minimize = values_order m o h a b valid ranked is fits also
    by_sense Maximize = values_order m o h b a valid ranked is also fits

-- the law: on all numbers of the hull, the order is that of the values that they give
pub numbers_in_order : (m : Data) (o : Objective) (h : Ends) (v u : ℤ) → list_all is_interval_def m.intervals ≡ true → IsRanked m o → hull_of m o.expr ≡ Some h → Within h v → Within h u
    → int_lt v u ≡ comes_first (unranked m o v) (unranked m o u)
numbers_in_order m o h v u valid ranked is low high = by_case (is_empty o.criteria) refl
  where
    plain : (z : ℤ) → is_empty o.criteria ≡ true → unranked m o z ≡ z ∷ []
    plain z none = ap (λ b. cond b (z ∷ []) (values_at (ranges_of m o.criteria) (digits (map width (ranges_of m o.criteria)) (int_gap (low_of m o.expr) z)))) none

    by_case : (c : Bool) → is_empty o.criteria ≡ c → int_lt v u ≡ comes_first (unranked m o v) (unranked m o u)
    by_case true none = sym (ap (λ xs. comes_first xs (unranked m o u)) (plain v none) ∙ ap (λ xs. comes_first (v ∷ []) xs) (plain u none) ∙ alone v u)
    by_case false more =
        let k = ranges m o h valid ranked more is in
        numbers_order k.rs v u k.ordered (subst (λ r. Within r v) k.hull low) (subst (λ r. Within r u) k.hull high)
        ∙ sym (ap (λ xs. comes_first xs (unranked m o u)) (unranked_is m o h v k more is) ∙ ap (λ xs. comes_first (values_in k.rs v) xs) (unranked_is m o h u k more is))

-- Where a rank has a hull, its weights are such numbers as a text may have.

weight_small : (m : Data) (e : Expr) (w : ℕ) (t : Ends) → hull_of m (times e w) ≡ Some t → is_small (pos w) ≡ true
weight_small m e w t h =
    by_literal (limited (pos w, pos w)) refl (hull_of m e)
    (sym (fold-roll-Expr (Option Ends) (hull_step m) (expr.Product (e ∷ roll-Expr (expr.Lit (pos w)) ∷ []))
    ∙ ap (λ o. option_and_then (λ rs. limited (product_range rs)) (all_of (hull_of m e ∷ o ∷ []))) (fold-roll-Expr (Option Ends) (hull_step m) (expr.Lit (pos w)))) ∙ h)
  where
    by_literal : (o : Option Ends) → limited (pos w, pos w) ≡ o → (p : Option Ends) → option_and_then (λ rs. limited (product_range rs)) (all_of (p ∷ o ∷ [])) ≡ Some t → is_small (pos w) ≡ true
    by_literal None lit None h = cc
    by_literal None lit (Some r) h = cc
    by_literal (Some q) lit p h = limited_small (pos w) q lit

-- each weight is small
abbrev pub AreSmallWeights : List Ends → Type 0
AreSmallWeights [] = Unit {0}
AreSmallWeights (r ∷ rs) = (is_small (pos (weight rs)) ≡ true) × AreSmallWeights rs

pub weights_small : (m : Data) (es : List Expr) (rs ts : List Ends) → HaveHulls m es rs → HaveHulls m (weighted rs es) ts → AreSmallWeights rs
weights_small m [] [] ts h k = tt
weights_small m [] (r ∷ rs) ts h k = absurd h
weights_small m (e ∷ es) [] ts h k = absurd h
weights_small m (e ∷ es) (r ∷ rs) [] h k = absurd k
weights_small m (e ∷ es) (r ∷ rs) (t ∷ ts) h k = (weight_small m e (weight rs) t k.0, weights_small m es rs ts h.1 k.1)

some_of : (o : Option (List Ends)) → is_some o ≡ true → (rs : List Ends) × (o ≡ Some rs)
some_of None h = cc
some_of (Some rs) h = (rs, refl)

pub parts_of_sum : (m : Data) (es : List Expr) (h : Ends) → hull_of m (roll-Expr (expr.Sum es)) ≡ Some h → (ts : List Ends) × HaveHulls m es ts
parts_of_sum m es h is = option_and_then_some _ (all_of (map (hull_of m) es)) h (sym (fold-roll-Expr (Option Ends) (hull_step m) (expr.Sum es)) ∙ is) (λ ts parts limit. (ts, have_hulls m es ts parts))

pub small_weights : (m : Data) (o : Objective) (h : Ends) → IsRanked m o → is_empty o.criteria ≡ false → hull_of m o.expr ≡ Some h → (rs : List Ends) × HaveHulls m o.criteria rs × AreSmallWeights rs
small_weights m o h ranked more is =
    let w = some_of (all_of (map (hull_of m) o.criteria)) ranked.hulls in
    let hulls = have_hulls m o.criteria w.0 w.1 in
    let form : o.expr ≡ roll-Expr (expr.Sum (weighted w.0 o.criteria)) = ranked.rank more ∙ ap (λ q. roll-Expr (expr.Sum (weighted (unwrap_or q []) o.criteria))) w.1 in
    let parts = parts_of_sum m (weighted w.0 o.criteria) h (sym (ap (hull_of m) form) ∙ is) in
    (w.0, hulls, weights_small m o.criteria w.0 parts.0 hulls parts.1)

-- there are as many hulls as criteria
pub as_many : (m : Data) (es : List Expr) (rs : List Ends) → HaveHulls m es rs → length es ≡ length rs
as_many m [] [] h = refl
as_many m [] (r ∷ rs) h = absurd h
as_many m (e ∷ es) [] h = absurd h
as_many m (e ∷ es) (r ∷ rs) h = let rest = as_many m es rs h.1 in omega (arith, rest)
