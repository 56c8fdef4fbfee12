-- A word of numbers with commas between them tells the numbers, and a value of an objective is told by those of its criteria.
use Rattle.std.specs.Prelude.{◌≡◌, ℕ, suc, ◌^◌, ◌<◌, ◌≤◌, ◌==◌, nat_le, Bool, true, false, not, ◌&&◌, ◌||◌, cond, if◌then◌else◌, ℤ, pos, negsuc, ◌≤ℤ◌, int_lt, int_le, List, [], ◌∷◌, ◌++◌, map, length, Option, Some, None, option_map, option_and_then, unwrap_or, is_some}
use Rattle.std.specs.Option.{IfSome}
use Rattle.std.specs.Int.{int_gap}
use Rattle.std.specs.Ordering.{int_eq}
use Rattle.std.proofs.Common.{refl, sym, ap, subst, ◌∙◌, arith, append_assoc}
use Rattle.std.proofs.lemmas.Option.{cond_some}
use Rattle.std.specs.Fmt.{decimal, signed_decimal}
use Rattle.std.specs.List.{list_all}
use Rattle.std.specs.Str.{all_ascii_digits}
use Rattle.std.specs.Char.{is_ascii_digit}
use Rattle.std.proofs.lemmas.Int.{ints}
use Rattle.std.proofs.lemmas.Fmt.{digits_decimal, decimal_nonempty}
use Rattle.std.proofs.lemmas.Bool.Decides.{nat_tests}
use Rattle.std.proofs.lemmas.Bool.{and_parts, and_from}
use Rattle.std.proofs.lemmas.List.{length-map}
use Rattle.std.proofs.lemmas.List.Folds.{list_all-append}
use Rattle.base_laws.specs.laws.Numbers.{at_most}
use Rattle.base_laws.specs.laws.Numerals.{digits_are_numerals}
use Rattle.base_laws.specs.laws.Lists.{same_lists}
use Rattle.sched_model.specs.declared.types.Objective.{Objective}
use Rattle.sched_model.specs.declared.types.Expr.{Expr}
use Rattle.sched_model.specs.Words.{is_empty}
use Rattle.sched_model.specs.Ranges.{Ends, negated, total_range, product_range, greatest_range, least_range}
use Rattle.sched_model.specs.Data.{Data}
use Rattle.sched_model.specs.Bounds.{is_small}
use Rattle.sched_model.specs.declared.types.Expr.TheOpen.{Expr-F}
use Rattle.sched_model.specs.declared.types.Expr.TheOpen.Expr-F.{Lit, StartOf, EndOf, SizeOf, LengthOf, PresenceOf, Neg, Sum, Product, Max, Min, Compare, Not, And, Or, Implies}
use Rattle.sched_model.specs.declared.types.Expr.TheFolds.{fold-roll-Expr, ind-Expr, map-Expr}
use Rattle.sched_model.specs.declared.types.Expr.TheViews.{roll-Expr}
use Rattle.sched_model.specs.Hull.{limited, of_one, hull_step, hull_of}
use Rattle.sched_model.specs.Valid.{IsValid}
use Rattle.base_laws.specs.Digits.{digits}
use Rattle.sched_model.specs.Rank.{width, ranges_of, comes_first, values_at, low_of, unranked, unranked_in, IsRanked}
use Rattle.sched_model.specs.code.Ranks.{count_of}
use Rattle.sched_model.specs.laws.Small.{small_mag, small_told}
use Rattle.sched_model.specs.Words.{all_of}
use Rattle.sched_model.specs.laws.Within.{Within, AllWithin}
use Rattle.sched_model.specs.laws.Rank.{values_in, values_within}
use Rattle.sched_model.specs.laws.Ranked.{HaveHulls, have_hulls, ranges, unranked_is, numbers_in_order}
use Rattle.textline.specs.Lines.{Bytes}
use Rattle.textline.specs.Words.{is_plain, is_word}
use Rattle.textline.specs.laws.Numbers.{signed_is_word}
use Rattle.sched_text.specs.Answers.{numbers_word, values_word}
use Rattle.sched_text.specs.Values.{lies_in, IsValue}

-- without a comma

abbrev pub is_no_comma : ℕ → Bool
is_no_comma b = not (b == 44)

abbrev pub has_no_comma : Bytes → Bool
has_no_comma w = list_all is_no_comma w

digit_no_comma : (b : ℕ) → is_ascii_digit b ≡ true → is_no_comma b ≡ true
digit_no_comma b h = grind (arith, nat_tests)

digits_no_comma : (ds : Bytes) → all_ascii_digits ds ≡ true → has_no_comma ds ≡ true
digits_no_comma [] h = refl
digits_no_comma (b ∷ ds) h = let two = and_parts (is_ascii_digit b) (all_ascii_digits ds) h in and_from (is_no_comma b) (has_no_comma ds) (digit_no_comma b two.0) (digits_no_comma ds two.1)

pub number_no_comma : (z : ℤ) → is_small z ≡ true → has_no_comma (signed_decimal z) ≡ true
number_no_comma (pos n) h = let small = small_mag (pos n) h in digits_no_comma (decimal n) (digits_decimal digits_are_numerals n (omega (arith, small)))
number_no_comma (negsuc n) h = let small = small_mag (negsuc n) h in digits_no_comma (decimal (suc n)) (digits_decimal digits_are_numerals (suc n) (omega (arith, small)))

-- what stands before the first comma, and behind it
pub cut_at_comma : (u v x y : Bytes) → has_no_comma u ≡ true → has_no_comma v ≡ true → u ++ 44 ∷ x ≡ v ++ 44 ∷ y → (u ≡ v) × (x ≡ y)
cut_at_comma [] [] x y hu hv e = (refl, let same : x ≡ y = cc in same)
cut_at_comma [] (b ∷ v) x y hu hv e = let no = (and_parts (is_no_comma b) (has_no_comma v) hv).0 in let is : 44 ≡ b = cc in let wrong : is_no_comma 44 ≡ true = ap is_no_comma is ∙ no in cc
cut_at_comma (a ∷ u) [] x y hu hv e = let no = (and_parts (is_no_comma a) (has_no_comma u) hu).0 in let is : 44 ≡ a = cc in let wrong : is_no_comma 44 ≡ true = ap is_no_comma is ∙ no in cc
cut_at_comma (a ∷ u) (b ∷ v) x y hu hv e =
    let rest = cut_at_comma u v x y (and_parts (is_no_comma a) (has_no_comma u) hu).1 (and_parts (is_no_comma b) (has_no_comma v) hv).1 (cc) in
    let first : a ≡ b = cc in (same_lists a b u v first rest.0, rest.1)

pub no_cut : (u v y : Bytes) → has_no_comma u ≡ true → u ≡ v ++ 44 ∷ y → ⊥
no_cut [] [] y hu e = cc
no_cut [] (b ∷ v) y hu e = cc
no_cut (a ∷ u) [] y hu e = let no = (and_parts (is_no_comma a) (has_no_comma u) hu).0 in let is : 44 ≡ a = cc in let wrong : is_no_comma 44 ≡ true = ap is_no_comma is ∙ no in cc
no_cut (a ∷ u) (b ∷ v) y hu e = no_cut u v y (and_parts (is_no_comma a) (has_no_comma u) hu).1 (cc)

-- numbers

abbrev pub are_small : List ℤ → Bool
are_small vs = list_all is_small vs

pub more_numbers : (v u : ℤ) (us : List ℤ) → numbers_word (v ∷ u ∷ us) ≡ signed_decimal v ++ 44 ∷ numbers_word (u ∷ us)
more_numbers v u us = append_assoc (signed_decimal v) (44 ∷ []) (numbers_word (u ∷ us))

pub numbers_are_word : (vs : List ℤ) → are_small vs ≡ true → is_word (numbers_word vs) ≡ true
numbers_are_word [] h = refl
numbers_are_word (v ∷ []) h = signed_is_word v (small_mag v (and_parts (is_small v) true h).0)
numbers_are_word (v ∷ u ∷ us) h =
    let parts = and_parts (is_small v) (are_small (u ∷ us)) h in
    ap is_word (more_numbers v u us)
    ∙ list_all-append is_plain (signed_decimal v) (44 ∷ numbers_word (u ∷ us))
    ∙ and_from (is_word (signed_decimal v)) (is_word (numbers_word (u ∷ us))) (signed_is_word v (small_mag v parts.0)) (numbers_are_word (u ∷ us) parts.1)

-- of lists that are not empty
pub numbers_told : (v u : ℤ) (vs us : List ℤ) → are_small (v ∷ vs) ≡ true → are_small (u ∷ us) ≡ true → numbers_word (v ∷ vs) ≡ numbers_word (u ∷ us) → v ∷ vs ≡ u ∷ us
numbers_told v u [] [] hv hu e = same_lists v u [] [] (small_told v u (and_parts (is_small v) true hv).0 (and_parts (is_small u) true hu).0 e) refl
numbers_told v u [] (t ∷ us) hv hu e =
    absurd (no_cut (signed_decimal v) (signed_decimal u) (numbers_word (t ∷ us)) (number_no_comma v (and_parts (is_small v) true hv).0) (e ∙ more_numbers u t us))
numbers_told v u (s ∷ vs) [] hv hu e =
    absurd (no_cut (signed_decimal u) (signed_decimal v) (numbers_word (s ∷ vs)) (number_no_comma u (and_parts (is_small u) true hu).0) (sym e ∙ more_numbers v s vs))
numbers_told v u (s ∷ vs) (t ∷ us) hv hu e =
    let a = and_parts (is_small v) (are_small (s ∷ vs)) hv in
    let b = and_parts (is_small u) (are_small (t ∷ us)) hu in
    let cut = cut_at_comma (signed_decimal v) (signed_decimal u) (numbers_word (s ∷ vs)) (numbers_word (t ∷ us)) (number_no_comma v a.0) (number_no_comma u b.0) (sym (more_numbers v s vs) ∙ e ∙ more_numbers u t us) in
    same_lists v u (s ∷ vs) (t ∷ us) (small_told v u a.0 b.0 cut.0) (numbers_told s t vs us a.1 b.1 cut.1)

-- how many there are

digits_length : (ws : List ℕ) (n : ℕ) → length (digits ws n) ≡ length ws
digits_length [] n = refl
digits_length (w ∷ ws) n = ap suc (digits_length ws n)

at_length : (rs : List Ends) (ds : List ℕ) → length ds ≡ length rs → length (values_at rs ds) ≡ length rs
at_length [] [] h = refl
at_length [] (d ∷ ds) h = refl
at_length (r ∷ rs) [] h = absurd (omega (arith, h))
at_length (r ∷ rs) (d ∷ ds) h = ap suc (at_length rs ds (omega (arith, h)))

hulls_length : (m : Data) (es : List Expr) (rs : List Ends) → HaveHulls m es rs → length rs ≡ length es
hulls_length m [] [] h = refl
hulls_length m [] (r ∷ rs) h = absurd h
hulls_length m (e ∷ es) [] h = absurd h
hulls_length m (e ∷ es) (r ∷ rs) h = ap suc (hulls_length m es rs h.1)

several_length : (m : Data) (es : List Expr) (n : ℕ) → is_some (all_of (map (hull_of m) es)) ≡ true → length (values_at (ranges_of m es) (digits (map width (ranges_of m es)) n)) ≡ length es
several_length m es n some = by (all_of (map (hull_of m) es)) refl some
  where
    by : (o : Option (List Ends)) → all_of (map (hull_of m) es) ≡ o → is_some o ≡ true → length (values_at (ranges_of m es) (digits (map width (ranges_of m es)) n)) ≡ length es
    by None is h = cc
    by (Some rs) is h =
        ap (λ q. length (values_at (unwrap_or q []) (digits (map width (unwrap_or q [])) n))) is
        ∙ at_length rs (digits (map width rs) n) (digits_length (map width rs) n ∙ length-map rs width)
        ∙ hulls_length m es rs (have_hulls m es rs is)

unranked_length : (m : Data) (o : Objective) (v : ℤ) → IsRanked m o → length (unranked m o v) ≡ count_of (Some o)
unranked_length m o v r = by (is_empty o.criteria) refl
  where
    by : (b : Bool) → is_empty o.criteria ≡ b
        → length (if b then v ∷ [] else values_at (ranges_of m o.criteria) (digits (map width (ranges_of m o.criteria)) (int_gap (low_of m o.expr) v))) ≡ (if b then 1 else length o.criteria)
    by true is = refl
    by false is = several_length m o.criteria (int_gap (low_of m o.expr) v) r.hulls

pub values_counted : (m : Data) (v : ℤ) → IsValid m → length (unranked_in m v) ≡ count_of m.objective
values_counted m v valid = by m.objective valid.criteria
  where
    by : (p : Option Objective) → IfSome p (IsRanked m) → length (unwrap_or (option_map (λ o. unranked m o v) p) []) ≡ count_of p
    by None r = refl
    by (Some o) r = unranked_length m o v r

-- of a number within the hull of the objective they are small, and tell the number

abbrev AreSmall : Ends → Type 0
AreSmall r = (is_small r.0 && is_small r.1) ≡ true

limited_small : (x r : Ends) → limited x ≡ Some r → AreSmall r
unfolding limited
limited_small x r h = let e = cond_some _ x r h in subst AreSmall e.1 e.0

one_small : (f : Ends → Ends) (o : Option Ends) (r : Ends) → of_one f o ≡ Some r → AreSmall r
one_small f None r h = cc
one_small f (Some x) r h = limited_small (f x) r h

all_limited : (f : List Ends → Ends) (o : Option (List Ends)) (r : Ends) → option_and_then (λ rs. limited (f rs)) o ≡ Some r → AreSmall r
all_limited f None r h = cc
all_limited f (Some xs) r h = limited_small (f xs) r h

truth_small : (o : Option (List Ends)) (r : Ends) → option_map (λ rs. (pos 0, pos 1)) o ≡ Some r → AreSmall r
truth_small None r h = cc
truth_small (Some xs) r h = let is : (pos 0, pos 1) ≡ r = cc in subst AreSmall is refl

level_small : (m : Data) (y : Expr-F (Option Ends)) (r : Ends) → hull_step m y ≡ Some r → AreSmall r
level_small m (Lit n) r h = limited_small (n, n) r h
level_small m (StartOf x d) r h = limited_small _ r h
level_small m (EndOf x d) r h = limited_small _ r h
level_small m (SizeOf x d) r h = limited_small _ r h
level_small m (LengthOf x d) r h = limited_small _ r h
level_small m (PresenceOf x) r h = limited_small _ r h
level_small m (Neg x) r h = one_small negated x r h
level_small m (Sum xs) r h = all_limited total_range (all_of xs) r h
level_small m (Product xs) r h = all_limited product_range (all_of xs) r h
level_small m (Max xs) r h = all_limited greatest_range (all_of xs) r h
level_small m (Min xs) r h = all_limited least_range (all_of xs) r h
level_small m (Compare op x y) r h = truth_small (all_of (x ∷ y ∷ [])) r h
level_small m (Not x) r h = truth_small (all_of (x ∷ [])) r h
level_small m (And xs) r h = truth_small (all_of xs) r h
level_small m (Or xs) r h = truth_small (all_of xs) r h
level_small m (Implies x y) r h = truth_small (all_of (x ∷ y ∷ [])) r h

abbrev IsLimited : Data → Expr → Type 0
IsLimited m e = (r : Ends) → hull_of m e ≡ Some r → AreSmall r

hull_is_small : (m : Data) (e : Expr) → IsLimited m e
hull_is_small m = ind-Expr (IsLimited m) (λ x y is. subst (λ z. IsLimited m (roll-Expr z)) is
    (λ r h. level_small m (map-Expr Expr (Option Ends) (hull_of m) (map-Expr ((e : Expr) × IsLimited m e) Expr (λ p. p.0) y)) r
    (sym (fold-roll-Expr (Option Ends) (hull_step m) (map-Expr ((e : Expr) × IsLimited m e) Expr (λ p. p.0) y)) ∙ h)))

between_small : (r : Ends) (v : ℤ) → AreSmall r → Within r v → is_small v ≡ true
between_small r v small within = let ends = and_parts (is_small r.0) (is_small r.1) small in let low = within.low in let high = within.high in grind (arith, ints, low, high, ends)

hull_small : (m : Data) (e : Expr) (h : Ends) (v : ℤ) → hull_of m e ≡ Some h → Within h v → is_small v ≡ true
hull_small m e h v is within = between_small h v (hull_is_small m e h is) within

all_small : (m : Data) (es : List Expr) (rs : List Ends) (vs : List ℤ) → HaveHulls m es rs → AllWithin rs vs → are_small vs ≡ true
all_small m [] [] [] h w = refl
all_small m [] [] (v ∷ vs) h w = absurd w
all_small m [] (r ∷ rs) vs h w = absurd h
all_small m (e ∷ es) [] vs h w = absurd h
all_small m (e ∷ es) (r ∷ rs) [] h w = absurd w
all_small m (e ∷ es) (r ∷ rs) (v ∷ vs) h w = and_from (is_small v) (are_small vs) (hull_small m e r v h.0 w.0) (all_small m es rs vs h.1 w.1)

unranked_small : (m : Data) (o : Objective) (h : Ends) (v : ℤ) → IsValid m → IsRanked m o → hull_of m o.expr ≡ Some h → Within h v → are_small (unranked m o v) ≡ true
unranked_small m o h v valid r is within = by (is_empty o.criteria) refl
  where
    by : (b : Bool) → is_empty o.criteria ≡ b → are_small (unranked m o v) ≡ true
    by true none = ap (λ c. are_small (cond c (v ∷ []) (values_at (ranges_of m o.criteria) (digits (map width (ranges_of m o.criteria)) (int_gap (low_of m o.expr) v))))) none
        ∙ and_from (is_small v) true (hull_small m o.expr h v is within) refl
    by false some =
        let k = ranges m o h valid.intervals r some is in
        ap are_small (unranked_is m o h v k some is) ∙ all_small m o.criteria k.rs (values_in k.rs v) k.hulls (values_within k.rs v k.ordered)

objective_is : (m : Data) (v : ℤ) (o : Objective) → m.objective ≡ Some o → unranked_in m v ≡ unranked m o v
objective_is m v o is = ap (λ p. unwrap_or (option_map (λ q. unranked m q v) p) []) is

ranked_in : (m : Data) (o : Objective) → IsValid m → m.objective ≡ Some o → IsRanked m o
ranked_in m o valid is = subst (λ p. IfSome p (IsRanked m)) is valid.criteria

within_of : (h : Ends) (v : ℤ) → lies_in h v ≡ true → Within h v
within_of h v lies = let parts = and_parts (int_le h.0 v) (int_le v h.1) lies in record { low = le_is h.0 v parts.0; high = le_is v h.1 parts.1 }
  where
    le_is : (a b : ℤ) → int_le a b ≡ true → a ≤ℤ b
    le_is a b h = grind (arith, ints)

pub values_small : (m : Data) (v : ℤ) → IsValid m → IsValue m v → are_small (unranked_in m v) ≡ true
values_small m v valid (o, h, is, hull, lies) = ap are_small (objective_is m v o is) ∙ unranked_small m o h v valid (ranked_in m o valid is) hull (within_of h v lies)

pub values_are_word : (m : Data) (v : ℤ) → IsValid m → IsValue m v → is_word (values_word m v) ≡ true
values_are_word m v valid value = numbers_are_word (unranked_in m v) (values_small m v valid value)

-- one to eight
pub few_values : (m : Data) (v : ℤ) → IsValid m → IsValue m v → (1 ≤ length (unranked_in m v)) × (length (unranked_in m v) ≤ 8)
few_values m v valid (o, h, is, hull, lies) =
    let r = ranked_in m o valid is in
    let count = values_counted m v valid ∙ ap count_of is in
    by (is_empty o.criteria) r.many count
  where
    by : (b : Bool) → (b || (nat_le 2 (length o.criteria) && nat_le (length o.criteria) 8)) ≡ true → length (unranked_in m v) ≡ (if b then 1 else length o.criteria) → (1 ≤ length (unranked_in m v)) × (length (unranked_in m v) ≤ 8)
    by true many count = (omega (arith, count), omega (arith, count))
    by false many count =
        let parts = and_parts (nat_le 2 (length o.criteria)) (nat_le (length o.criteria) 8) many in
        let low = at_most 2 (length o.criteria) parts.0 in
        let high = at_most (length o.criteria) 8 parts.1 in
        (omega (arith, count, low), omega (arith, count, high))

not_first : (xs : List ℤ) → comes_first xs xs ≡ false
not_first [] = refl
not_first (x ∷ xs) = by_rest (comes_first xs xs) (not_first xs)
  where
    by_rest : (b : Bool) → b ≡ false → (int_lt x x || (int_eq x x && b)) ≡ false
    by_rest true h = cc
    by_rest false h = grind (arith, ints)

neither_first : (v u : ℤ) → int_lt v u ≡ false → int_lt u v ≡ false → v ≡ u
neither_first v u h k = omega (arith, ints, at_least v u h, at_least u v k)
  where
    at_least : (v u : ℤ) → int_lt v u ≡ false → u ≤ℤ v
    at_least v u h = grind (arith, ints)

-- two numbers of the hull with the same values are one
same_rank : (m : Data) (v u : ℤ) → IsValid m → IsValue m v → IsValue m u → unranked_in m v ≡ unranked_in m u → v ≡ u
same_rank m v u valid (o, h, is, hull, lies) (p, k, also, other, lie) e =
    let same_o : p ≡ o = let q : Some p ≡ Some o = sym also ∙ is in cc in
    let same_h : k ≡ h = let q : Some k ≡ Some h = sym other ∙ ap (λ (x : Objective). hull_of m x.expr) same_o ∙ hull in cc in
    let low = within_of h v lies in
    let within : Within h u = subst (λ x. Within x u) same_h (within_of k u lie) in
    let values : unranked m o v ≡ unranked m o u = sym (objective_is m v o is) ∙ e ∙ objective_is m u o is in
    let r = ranked_in m o valid is in
    neither_first v u
    (numbers_in_order m o h v u valid.intervals r hull low within ∙ ap (λ xs. comes_first xs (unranked m o u)) values ∙ not_first (unranked m o u))
    (numbers_in_order m o h u v valid.intervals r hull within low ∙ ap (λ xs. comes_first (unranked m o u) xs) values ∙ not_first (unranked m o u))

-- the law: one word of values is of one number
pub values_told : (m : Data) (v u : ℤ) → IsValid m → IsValue m v → IsValue m u → values_word m v ≡ values_word m u → v ≡ u
values_told m v u valid a b e =
    same_rank m v u valid a b (by (unranked_in m v) (unranked_in m u) (few_values m v valid a).0 (few_values m u valid b).0 (values_small m v valid a) (values_small m u valid b) e)
  where
    by : (vs us : List ℤ) → 1 ≤ length vs → 1 ≤ length us → are_small vs ≡ true → are_small us ≡ true → numbers_word vs ≡ numbers_word us → vs ≡ us
    by [] us some more hv hu e = absurd (omega (arith, some))
    by (v ∷ vs) [] some more hv hu e = absurd (omega (arith, more))
    by (v ∷ vs) (u ∷ us) some more hv hu e = numbers_told v u vs us hv hu e

-- and none begins with a letter

digit_first : (b : ℕ) → is_ascii_digit b ≡ true → b < 58
digit_first b h = grind (arith, nat_tests)

digits_first : (n b : ℕ) (t : Bytes) → n < 2 ^ 64 → decimal n ≡ b ∷ t → b < 58
digits_first n b t small e =
    let digits : all_ascii_digits (b ∷ t) ≡ true = ap all_ascii_digits (sym e) ∙ digits_decimal digits_are_numerals n small in
    digit_first b (and_parts (is_ascii_digit b) (all_ascii_digits t) digits).0

number_first : (z : ℤ) → is_small z ≡ true → (b : ℕ) (t : Bytes) → signed_decimal z ≡ b ∷ t → b < 58
number_first (negsuc n) h b t e = let is : 45 ≡ b = cc in omega (arith, is)
number_first (pos n) h b t e = let small = small_mag (pos n) h in digits_first n b t (omega (arith, small)) e

number_some : (z : ℤ) → is_small z ≡ true → signed_decimal z ≡ [] → ⊥
number_some (negsuc n) h e = cc
number_some (pos n) h e = let small = small_mag (pos n) h in let few = decimal_nonempty n (omega (arith, small)) in absurd (omega (arith, few, ap length e))

front_first : (z : ℤ) → is_small z ≡ true → (w : Bytes) → signed_decimal z ≡ w → (x y : Bytes) (b : ℕ) → w ++ x ≡ b ∷ y → b < 58
front_first z h [] is x y b e = absurd (number_some z h is)
front_first z h (c ∷ w) is x y b e = let same : c ≡ b = cc in subst (λ k. k < 58) same (number_first z h c w is)

pub numbers_first : (vs : List ℤ) → 1 ≤ length vs → are_small vs ≡ true → (b : ℕ) (y : Bytes) → numbers_word vs ≡ b ∷ y → b < 58
numbers_first [] some small b y e = absurd (omega (arith, some))
numbers_first (u ∷ []) some small b y e = number_first u (and_parts (is_small u) true small).0 b y e
numbers_first (u ∷ t ∷ us) some small b y e = front_first u (and_parts (is_small u) (are_small (t ∷ us)) small).0 (signed_decimal u) refl (44 ∷ numbers_word (t ∷ us)) y b (sym (more_numbers u t us) ∙ e)

pub values_first : (m : Data) (v : ℤ) → IsValid m → IsValue m v → (b : ℕ) (y : Bytes) → values_word m v ≡ b ∷ y → b < 58
values_first m v valid value = numbers_first (unranked_in m v) (few_values m v valid value).0 (values_small m v valid value)
