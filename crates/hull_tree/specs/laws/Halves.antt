-- What an operation makes of a list, from what it makes of two parts of the list.
use Rattle.std.specs.Prelude.{◌≡◌, ℕ, suc, ◌*◌, ◌^◌, ◌<◌, ℤ, pos, neg_ℤ, negsuc, ◌+ℤ◌, ◌≤ℤ◌, Bool, true, false, not, ◌&&◌, ◌||◌, List, [], ◌∷◌, ◌++◌, length, fold, int_lt}
use Rattle.std.specs.Int.{int_max, int_min, saturate_signed, w128}
use Rattle.std.specs.Ordering.{int_eq}
use Rattle.std.specs.List.{list_all, list_any}
use Rattle.std.proofs.Common.{refl, sym, ap, ◌∙◌, arith}
use Rattle.std.proofs.lemmas.Int.{ints}
use Rattle.std.proofs.lemmas.Bool.{true≢false, and_parts}
use Rattle.sched_model.specs.Words.{total, greatest, least}
use Rattle.sched_model.specs.Bounds.{is_small}
use Rattle.sched_model.specs.Ranges.{Ends, lows, highs, total_range}
use Rattle.look_hull.specs.LookHull.{truth_range, surely_true, surely_false, and_range, or_range}
use Rattle.hull_tree.specs.declared.nodes.Op.{Op}
use Rattle.hull_tree.specs.declared.nodes.Op.TheVariants.{Neg, Add, Times, Greater, Lesser, Compare, Not, Both, Either, Implies}
use Rattle.look_hull.specs.code.Saturated.{saturated}
use Rattle.look_hull.specs.laws.Saturation.{pair_kept}
use Rattle.hull_tree.specs.code.Nodes.{added, combined, joined_truth, whole, is_joining, is_limited}

-- lists of ends
lows_joined : (xs ys : List Ends) → lows (xs ++ ys) ≡ lows xs ++ lows ys
lows_joined [] ys = refl
lows_joined (x ∷ xs) ys = ap (λ zs. x.0 ∷ zs) (lows_joined xs ys)

highs_joined : (xs ys : List Ends) → highs (xs ++ ys) ≡ highs xs ++ highs ys
highs_joined [] ys = refl
highs_joined (x ∷ xs) ys = ap (λ zs. x.1 ∷ zs) (highs_joined xs ys)

pair_by : (a b c d : ℤ) → a ≡ c → b ≡ d → (let e : Ends = (a, b) in e) ≡ (c, d)
pair_by a b c d h i = ap (λ z. let e : Ends = (z, b) in e) h ∙ ap (λ z. let e : Ends = (c, z) in e) i

-- sums
total_joined : (xs ys : List ℤ) → total xs +ℤ total ys ≡ total (xs ++ ys)
total_joined [] ys = omega (arith, ints)
total_joined (x ∷ xs) ys = let rest = total_joined xs ys in omega (arith, ints, rest)

record Bounded (n : ℕ) (z : ℤ) : Type 0 where
  from : neg_ℤ (pos (2 ^ 62 * n)) ≤ℤ z
  to : z ≤ℤ pos (2 ^ 62 * n)

bounded_more : (n : ℕ) (x z : ℤ) → is_small x ≡ true → Bounded n z → Bounded (suc n) (x +ℤ z)
bounded_more n x z small h = let s = ends x small in record { from = omega (arith, ints, s.0, h.from); to = omega (arith, ints, s.1, h.to) }
  where
    ends : (x : ℤ) → is_small x ≡ true → (neg_ℤ (pos (2 ^ 62)) ≤ℤ x) × (x ≤ℤ pos (2 ^ 62))
    ends x h = (grind (arith, ints), grind (arith, ints))

low_bounded : (xs : List Ends) → list_all is_limited xs ≡ true → Bounded (length xs) (total (lows xs))
low_bounded [] h = record { from = omega (arith, ints); to = omega (arith, ints) }
low_bounded (x ∷ xs) h = let w = and_parts (is_limited x) (list_all is_limited xs) h in bounded_more (length xs) x.0 (total (lows xs)) (and_parts (is_small x.0) (is_small x.1) w.0).0 (low_bounded xs w.1)

high_bounded : (xs : List Ends) → list_all is_limited xs ≡ true → Bounded (length xs) (total (highs xs))
high_bounded [] h = record { from = omega (arith, ints); to = omega (arith, ints) }
high_bounded (x ∷ xs) h = let w = and_parts (is_limited x) (list_all is_limited xs) h in bounded_more (length xs) x.1 (total (highs xs)) (and_parts (is_small x.0) (is_small x.1) w.0).1 (high_bounded xs w.1)

held : (z : ℤ) → neg_ℤ (pos (2 ^ 126)) ≤ℤ z → z ≤ℤ pos (2 ^ 126) → saturate_signed w128 z ≡ z
held (pos n) h i = grind (arith, ints)
held (negsuc n) h i = grind (arith, ints)

within : (n k : ℕ) (y z : ℤ) → n < 2 ^ 63 → k < 2 ^ 63 → Bounded n y → Bounded k z → saturate_signed w128 (y +ℤ z) ≡ y +ℤ z
within n k y z few less h i = held (y +ℤ z) (omega (arith, ints, few, less, h.from, i.from)) (omega (arith, ints, few, less, h.to, i.to))

added_halves : (xs ys : List Ends) → list_all is_limited xs ≡ true → list_all is_limited ys ≡ true → length xs < 2 ^ 63 → length ys < 2 ^ 63 → added (total_range xs) (total_range ys) ≡ total_range (xs ++ ys)
added_halves xs ys h i few less = pair_by _ _ _ _
    (within (length xs) (length ys) (total (lows xs)) (total (lows ys)) few less (low_bounded xs h) (low_bounded ys i) ∙ total_joined (lows xs) (lows ys) ∙ ap total (sym (lows_joined xs ys)))
    (within (length xs) (length ys) (total (highs xs)) (total (highs ys)) few less (high_bounded xs h) (high_bounded ys i) ∙ total_joined (highs xs) (highs ys) ∙ ap total (sym (highs_joined xs ys)))

-- greatest and least
max_group : (a b c : ℤ) → int_max (int_max a b) c ≡ int_max a (int_max b c)
max_group a b c = grind (arith, ints)

min_group : (a b c : ℤ) → int_min (int_min a b) c ≡ int_min a (int_min b c)
min_group a b c = grind (arith, ints)

max_front : (ys : List ℤ) (a b : ℤ) → fold int_max (int_max a b) ys ≡ int_max a (fold int_max b ys)
max_front [] a b = refl
max_front (y ∷ ys) a b = ap (λ z. fold int_max z ys) (max_group a b y) ∙ max_front ys a (int_max b y)

min_front : (ys : List ℤ) (a b : ℤ) → fold int_min (int_min a b) ys ≡ int_min a (fold int_min b ys)
min_front [] a b = refl
min_front (y ∷ ys) a b = ap (λ z. fold int_min z ys) (min_group a b y) ∙ min_front ys a (int_min b y)

fold_joined : (f : ℤ → ℤ → ℤ) (a : ℤ) (xs ys : List ℤ) → fold f a (xs ++ ys) ≡ fold f (fold f a xs) ys
fold_joined f a [] ys = refl
fold_joined f a (x ∷ xs) ys = fold_joined f (f a x) xs ys

greatest_halves : (x y : ℤ) (xs ys : List ℤ) → int_max (greatest (x ∷ xs)) (greatest (y ∷ ys)) ≡ greatest ((x ∷ xs) ++ y ∷ ys)
greatest_halves x y xs ys = sym (fold_joined int_max x xs (y ∷ ys) ∙ max_front ys (fold int_max x xs) y)

least_halves : (x y : ℤ) (xs ys : List ℤ) → int_min (least (x ∷ xs)) (least (y ∷ ys)) ≡ least ((x ∷ xs) ++ y ∷ ys)
least_halves x y xs ys = sym (fold_joined int_min x xs (y ∷ ys) ∙ min_front ys (fold int_min x xs) y)

-- truth values
true_of : (a n : Bool) → surely_true (truth_range a n) ≡ a
true_of true n = refl
true_of false true = refl
true_of false false = refl

false_of : (a n : Bool) → surely_false (truth_range a n) ≡ (not a && n)
false_of true n = refl
false_of false true = refl
false_of false false = refl

all_joined : (p : Ends → Bool) (xs ys : List Ends) → (list_all p xs && list_all p ys) ≡ list_all p (xs ++ ys)
all_joined p [] ys = refl
all_joined p (x ∷ xs) ys = group (p x) (list_all p xs) (list_all p ys) ∙ ap (λ b. p x && b) (all_joined p xs ys)
  where
    group : (a b c : Bool) → ((a && b) && c) ≡ (a && (b && c))
    group true b c = refl
    group false b c = refl

any_joined : (p : Ends → Bool) (xs ys : List Ends) → (list_any p xs || list_any p ys) ≡ list_any p (xs ++ ys)
any_joined p [] ys = refl
any_joined p (x ∷ xs) ys = group (p x) (list_any p xs) (list_any p ys) ∙ ap (λ b. p x || b) (any_joined p xs ys)
  where
    group : (a b c : Bool) → ((a || b) || c) ≡ (a || (b || c))
    group true b c = refl
    group false b c = refl

-- where all are surely true the second test of a truth value counts for nothing
both_by : (a b n k : Bool) → (a ≡ true → n ≡ false) → (b ≡ true → k ≡ false) → truth_range (a && b) ((not a && n) || (not b && k)) ≡ truth_range (a && b) (n || k)
both_by true true n k h i = refl
both_by true false n k h i = ap (λ z. truth_range false (z || k)) (sym (h refl))
both_by false true n k h i = ap (λ z. truth_range false (n || z)) (sym (i refl))
both_by false false n k h i = refl

not_both : (x : Ends) → surely_true x ≡ true → surely_false x ≡ false
not_both x h = by_ends x.0 x.1 h
  where
    by_ends : (l u : ℤ) → (int_lt (pos 0) l || int_lt u (pos 0)) ≡ true → (int_eq l (pos 0) && int_eq u (pos 0)) ≡ false
    by_ends l u h = grind (arith, ints)

none_false : (xs : List Ends) → list_all surely_true xs ≡ true → list_any surely_false xs ≡ false
none_false [] h = refl
none_false (x ∷ xs) h = let w = and_parts (surely_true x) (list_all surely_true xs) h in ap (λ z. z || list_any surely_false xs) (not_both x w.0) ∙ none_false xs w.1

both_truths : (xs ys : List Ends) → joined_truth Both (and_range xs) (and_range ys) ≡ and_range (xs ++ ys)
both_truths xs ys =
    let a = list_all surely_true xs in let b = list_all surely_true ys in let n = list_any surely_false xs in let k = list_any surely_false ys in
    ap (λ z. truth_range (z && surely_true (truth_range b k)) (surely_false (truth_range a n) || surely_false (truth_range b k))) (true_of a n)
    ∙ ap (λ z. truth_range (a && z) (surely_false (truth_range a n) || surely_false (truth_range b k))) (true_of b k)
    ∙ ap (λ z. truth_range (a && b) (z || surely_false (truth_range b k))) (false_of a n)
    ∙ ap (λ z. truth_range (a && b) ((not a && n) || z)) (false_of b k)
    ∙ both_by a b n k (none_false xs) (none_false ys)
    ∙ ap (λ z. truth_range z (n || k)) (all_joined surely_true xs ys)
    ∙ ap (λ z. truth_range (list_all surely_true (xs ++ ys)) z) (any_joined surely_false xs ys)

either_by : (a b n k : Bool) → truth_range (a || b) ((not a && n) && (not b && k)) ≡ truth_range (a || b) (n && k)
either_by true b n k = refl
either_by false true n k = refl
either_by false false n k = refl

either_truths : (xs ys : List Ends) → joined_truth Either (or_range xs) (or_range ys) ≡ or_range (xs ++ ys)
either_truths xs ys =
    let a = list_any surely_true xs in let b = list_any surely_true ys in let n = list_all surely_false xs in let k = list_all surely_false ys in
    ap (λ z. truth_range (z || surely_true (truth_range b k)) (surely_false (truth_range a n) && surely_false (truth_range b k))) (true_of a n)
    ∙ ap (λ z. truth_range (a || z) (surely_false (truth_range a n) && surely_false (truth_range b k))) (true_of b k)
    ∙ ap (λ z. truth_range (a || b) (z && surely_false (truth_range b k))) (false_of a n)
    ∙ ap (λ z. truth_range (a || b) ((not a && n) && z)) (false_of b k)
    ∙ either_by a b n k
    ∙ ap (λ z. truth_range z (n && k)) (any_joined surely_true xs ys)
    ∙ ap (λ z. truth_range (list_any surely_true (xs ++ ys)) z) (all_joined surely_false xs ys)

-- 64 bits hold a truth value, and all within the limits
truth_kept : (a n : Bool) → saturated (truth_range a n) ≡ truth_range a n
truth_kept true n = pair_kept (pos 1, pos 1) refl refl
truth_kept false true = pair_kept (pos 0, pos 0) refl refl
truth_kept false false = pair_kept (pos 0, pos 1) refl refl

pub limited_kept : (r : Ends) → is_limited r ≡ true → saturated r ≡ r
limited_kept r h = let w = and_parts (is_small r.0) (is_small r.1) h in pair_kept r w.0 w.1

both_halves : (xs ys : List Ends) → combined Both (and_range xs) (and_range ys) ≡ and_range (xs ++ ys)
both_halves xs ys =
    ap (λ z. joined_truth Both z (saturated (and_range ys))) (truth_kept (list_all surely_true xs) (list_any surely_false xs))
    ∙ ap (λ z. joined_truth Both (and_range xs) z) (truth_kept (list_all surely_true ys) (list_any surely_false ys))
    ∙ both_truths xs ys

either_halves : (xs ys : List Ends) → combined Either (or_range xs) (or_range ys) ≡ or_range (xs ++ ys)
either_halves xs ys =
    ap (λ z. joined_truth Either z (saturated (or_range ys))) (truth_kept (list_any surely_true xs) (list_all surely_false xs))
    ∙ ap (λ z. joined_truth Either (or_range xs) z) (truth_kept (list_any surely_true ys) (list_all surely_false ys))
    ∙ either_truths xs ys

-- the law
pub halves : (op : Op) (xs ys : List Ends) → is_joining op ≡ true → list_all is_limited xs ≡ true → list_all is_limited ys ≡ true → 0 < length xs → length xs < 2 ^ 63 → 0 < length ys → length ys < 2 ^ 63
    → combined op (whole op xs) (whole op ys) ≡ whole op (xs ++ ys)
halves Add xs ys joins h i some few others less = added_halves xs ys h i few less
halves Greater [] ys joins h i some few others less = absurd (omega (arith, some))
halves Greater (x ∷ xs) [] joins h i some few others less = absurd (omega (arith, others))
halves Greater (x ∷ xs) (y ∷ ys) joins h i some few others less = pair_by _ _ _ _
    (greatest_halves x.0 y.0 (lows xs) (lows ys) ∙ ap greatest (sym (lows_joined (x ∷ xs) (y ∷ ys)))) (greatest_halves x.1 y.1 (highs xs) (highs ys) ∙ ap greatest (sym (highs_joined (x ∷ xs) (y ∷ ys))))
halves Lesser [] ys joins h i some few others less = absurd (omega (arith, some))
halves Lesser (x ∷ xs) [] joins h i some few others less = absurd (omega (arith, others))
halves Lesser (x ∷ xs) (y ∷ ys) joins h i some few others less = pair_by _ _ _ _
    (least_halves x.0 y.0 (lows xs) (lows ys) ∙ ap least (sym (lows_joined (x ∷ xs) (y ∷ ys)))) (least_halves x.1 y.1 (highs xs) (highs ys) ∙ ap least (sym (highs_joined (x ∷ xs) (y ∷ ys))))
halves Both xs ys joins h i some few others less = both_halves xs ys
halves Either xs ys joins h i some few others less = either_halves xs ys
halves Neg xs ys joins h i some few others less = absurd (true≢false (sym joins))
halves Times xs ys joins h i some few others less = absurd (true≢false (sym joins))
halves (Compare op) xs ys joins h i some few others less = absurd (true≢false (sym joins))
halves Not xs ys joins h i some few others less = absurd (true≢false (sym joins))
halves Implies xs ys joins h i some few others less = absurd (true≢false (sym joins))

-- of one
pub one_added : (x : Ends) → x ≡ whole Add (x ∷ [])
one_added x = sym (pair_by _ _ _ _ (plus_none x.0) (plus_none x.1))
  where
    plus_none : (z : ℤ) → z +ℤ pos 0 ≡ z
    plus_none z = omega (arith, ints)

twice_and : (t f : Bool) → truth_range (t && t) (f || f) ≡ truth_range (t && true) (f || false)
twice_and true true = refl
twice_and true false = refl
twice_and false true = refl
twice_and false false = refl

twice_or : (t f : Bool) → truth_range (t || t) (f && f) ≡ truth_range (t || false) (f && true)
twice_or true true = refl
twice_or true false = refl
twice_or false true = refl
twice_or false false = refl

pub one_and : (x : Ends) → is_limited x ≡ true → combined Both x x ≡ whole Both (x ∷ [])
one_and x h = ap (λ z. joined_truth Both z z) (limited_kept x h) ∙ twice_and (surely_true x) (surely_false x)

pub one_or : (x : Ends) → is_limited x ≡ true → combined Either x x ≡ whole Either (x ∷ [])
one_or x h = ap (λ z. joined_truth Either z z) (limited_kept x h) ∙ twice_or (surely_true x) (surely_false x)
