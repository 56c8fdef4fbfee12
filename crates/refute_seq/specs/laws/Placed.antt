-- Members that take their places one after the other stand in a row, where of each two one stands before the other and no
-- three stand in a circle.
use Rattle.std.specs.Prelude.{◌≡◌, ◌⊎◌, ◌+◌, ◌≤◌, length, Bool, true, false, ◌&&◌, ◌||◌, List, [], ◌∷◌, if◌then◌else◌}
use Rattle.std.specs.List.{list_all, filter}
use Rattle.std.proofs.Common.{refl, sym, subst, ap, ◌∙◌, inl, inr, arith}
use Rattle.std.proofs.lemmas.Bool.{both_ways, not-true, not_from_false}
use Rattle.base_laws.specs.laws.Kept.{filter_yes, filter_no, all_filter}
use Rattle.sched_base.specs.declared.ids.Itv.{Itv}
use Rattle.sched_model.specs.Words.{pairwise}
use Rattle.sched_model.specs.Data.{same, has}
use Rattle.region.specs.laws.Lists.{both_true, true_both}
use Rattle.region.specs.laws.OneSequence.{same_is, same_turned}
use Rattle.region.specs.laws.Orderly.{differ, all_has, each_all}
use Rattle.refute_seq.specs.code.Order.{placed, ordered_from}

-- of two members of a list one stands before the other, not both, and three don't stand in a circle
pub record IsOrder (before : Itv → Itv → Bool) (ms : List Itv) : Type 0 where
  pub total : (x y : Itv) → has ms x ≡ true → has ms y ≡ true → same x y ≡ false → (before x y ≡ true) ⊎ (before y x ≡ true)
  pub one_way : (x y : Itv) → before x y ≡ true → before y x ≡ true → ⊥
  pub no_circle : (x y z : Itv) → has ms x ≡ true → has ms y ≡ true → has ms z ≡ true → before x y ≡ true → before y z ≡ true → before z x ≡ true → ⊥

transitive : (before : Itv → Itv → Bool) (ms : List Itv) (x y z : Itv) → IsOrder before ms → has ms x ≡ true → has ms y ≡ true → has ms z ≡ true → before x y ≡ true → before y z ≡ true → before x z ≡ true
transitive before ms x y z order a b c first second = decided (same x z) refl
  where
    decided : (t : Bool) → same x z ≡ t → before x z ≡ true
    decided true is = absurd (order.one_way x y first (subst (λ w. before y w ≡ true) (sym (same_is x z is)) second))
    decided false is = elim (order.total x z a c is) [
      | inl h ↦ h
      | inr h ↦ absurd (order.no_circle x y z a b c first second h)
    ]

differ_turned : (x y : Itv) → differ x y ≡ true → differ y x ≡ true
differ_turned x y h = not_from_false (same y x) (same_turned x y (not-true (same x y) h))

-- what one more that takes its place keeps
all_placed : (before : Itv → Itv → Bool) (t : Itv → Bool) (x : Itv) (ys : List Itv) → t x ≡ true → list_all t ys ≡ true → list_all t (placed before x ys) ≡ true
all_placed before t x [] h all = true_both (t x) true h refl
all_placed before t x (y ∷ ys) h all = let two = both_true (t y) (list_all t ys) all in decided two.0 (before x y) (all_placed before t x ys h two.1)
  where
    decided : t y ≡ true → (b : Bool) → list_all t (placed before x ys) ≡ true → list_all t (if b then x ∷ y ∷ ys else y ∷ placed before x ys) ≡ true
    decided first true rest = true_both (t x) (list_all t (y ∷ ys)) h all
    decided first false rest = true_both (t y) (list_all t (placed before x ys)) first rest

once_placed : (before : Itv → Itv → Bool) (x : Itv) (ys : List Itv) → list_all (differ x) ys ≡ true → pairwise differ ys ≡ true → pairwise differ (placed before x ys) ≡ true
once_placed before x [] other once = refl
once_placed before x (y ∷ ys) other once =
    let apart = both_true (differ x y) (list_all (differ x) ys) other in
    let each = both_true (list_all (differ y) ys) (pairwise differ ys) once in
    decided (all_placed before (differ y) x ys (differ_turned x y apart.0) each.0) (before x y) (once_placed before x ys apart.1 each.1)
  where
    decided : list_all (differ y) (placed before x ys) ≡ true → (b : Bool) → pairwise differ (placed before x ys) ≡ true → pairwise differ (if b then x ∷ y ∷ ys else y ∷ placed before x ys) ≡ true
    decided first true rest = true_both (list_all (differ x) (y ∷ ys)) (pairwise differ (y ∷ ys)) other once
    decided first false rest = true_both (list_all (differ y) (placed before x ys)) (pairwise differ (placed before x ys)) first rest

row_placed : (before : Itv → Itv → Bool) (ms : List Itv) (x : Itv) (ys : List Itv) → IsOrder before ms → has ms x ≡ true → list_all (has ms) ys ≡ true → list_all (differ x) ys ≡ true → pairwise before ys ≡ true → pairwise before (placed before x ys) ≡ true
row_placed before ms x [] order one each other rows = refl
row_placed before ms x (y ∷ ys) order one each other rows =
    let of = both_true (has ms y) (list_all (has ms) ys) each in
    let apart = both_true (differ x y) (list_all (differ x) ys) other in
    let row = both_true (list_all (before y) ys) (pairwise before ys) rows in
    decided of.0 of.1 apart.0 row.0 (before x y) refl (row_placed before ms x ys order one of.1 apart.1 row.1)
  where
    back : (before x y ≡ true) ⊎ (before y x ≡ true) → before x y ≡ false → before y x ≡ true
    back (inl h) is = absurd (both_ways _ is h)
    back (inr h) is = h

    decided : has ms y ≡ true → list_all (has ms) ys ≡ true → differ x y ≡ true → list_all (before y) ys ≡ true → (b : Bool) → before x y ≡ b → pairwise before (placed before x ys) ≡ true → pairwise before (if b then x ∷ y ∷ ys else y ∷ placed before x ys) ≡ true
    decided here others apart first true is rest = true_both (list_all (before x) (y ∷ ys)) (pairwise before (y ∷ ys))
        (true_both (before x y) (list_all (before x) ys) is (each_all (before x) ys (λ z in_ys. transitive before ms x y z order one here (all_has (has ms) ys z others in_ys) is (all_has (before y) ys z first in_ys))))
        rows
    decided here others apart first false is rest = true_both (list_all (before y) (placed before x ys)) (pairwise before (placed before x ys))
        (all_placed before (before y) x ys (back (order.total x y one here (not-true (same x y) apart)) is) first)
        rest

-- the same members
swapped : (a b c : Bool) → (a || (b || c)) ≡ (b || (a || c))
swapped true true c = refl
swapped true false c = refl
swapped false true c = refl
swapped false false c = refl

has_placed : (before : Itv → Itv → Bool) (x : Itv) (ys : List Itv) (z : Itv) → has (placed before x ys) z ≡ has (x ∷ ys) z
has_placed before x [] z = refl
has_placed before x (y ∷ ys) z = decided (before x y) (has_placed before x ys z)
  where
    decided : (t : Bool) → has (placed before x ys) z ≡ has (x ∷ ys) z → has (if t then x ∷ y ∷ ys else y ∷ placed before x ys) z ≡ has (x ∷ y ∷ ys) z
    decided true rest = refl
    decided false rest = ap (λ b. same z y || b) rest ∙ swapped (same z y) (same z x) (has ys z)

in_turn : (a b c : Bool) → (a || (b || c)) ≡ ((b || a) || c)
in_turn true true c = refl
in_turn true false c = refl
in_turn false true c = refl
in_turn false false c = refl

pub has_ordered : (before : Itv → Itv → Bool) (xs ys : List Itv) (z : Itv) → has (ordered_from before xs ys) z ≡ (has ys z || has xs z)
has_ordered before xs [] z = refl
has_ordered before xs (y ∷ ys) z = has_ordered before (placed before y xs) ys z ∙ ap (λ b. has ys z || b) (has_placed before y xs z) ∙ in_turn (has ys z) (same z y) (has xs z)

-- a row of members: each once, one before the other
pub record IsRow (before : Itv → Itv → Bool) (ms xs : List Itv) : Type 0 where
  pub members : list_all (has ms) xs ≡ true
  pub once : pairwise differ xs ≡ true
  pub rows : pairwise before xs ≡ true

pub all_rows : (before : Itv → Itv → Bool) (ms xs ys : List Itv) → IsOrder before ms → IsRow before ms xs → list_all (has ms) ys ≡ true → pairwise differ ys ≡ true → list_all (λ y. list_all (differ y) xs) ys ≡ true
    → IsRow before ms (ordered_from before xs ys)
all_rows before ms xs [] order row each once other = row
all_rows before ms xs (y ∷ ys) order row each once other =
    let of = both_true (has ms y) (list_all (has ms) ys) each in
    let apart = both_true (list_all (differ y) xs) (list_all (λ z. list_all (differ z) xs) ys) other in
    let first = both_true (list_all (differ y) ys) (pairwise differ ys) once in
    all_rows before ms (placed before y xs) ys order
    (record {
      members = all_placed before (has ms) y xs of.0 row.members;
      once = once_placed before y xs apart.0 row.once;
      rows = row_placed before ms y xs order of.0 row.members apart.0 row.rows;
    })
    of.1 first.1
    (each_all (λ z. list_all (differ z) (placed before y xs)) ys (λ z here. all_placed before (differ z) y xs (differ_turned y z (all_has (differ y) ys z first.0 here)) (all_has (λ w. list_all (differ w) xs) ys z apart.1 here)))

-- who is kept of a list
pub has_kept : (t : Itv → Bool) (ms : List Itv) (x : Itv) → has (filter t ms) x ≡ (has ms x && t x)
has_kept t [] x = refl
has_kept t (y ∷ ys) x = decided (t y) (same x y) refl refl (has_kept t ys x)
  where
    decided : (b c : Bool) → t y ≡ b → same x y ≡ c → has (filter t ys) x ≡ (has ys x && t x) → has (filter t (y ∷ ys)) x ≡ ((same x y || has ys x) && t x)
    decided true true is same_ rest = let passes : t x ≡ true = ap t (same_is x y same_) ∙ is in
        ap (λ zs. has zs x) (filter_yes t y ys is) ∙ ap (λ b. b || has (filter t ys) x) same_ ∙ sym (ap (λ b. (b || has ys x) && t x) same_ ∙ passes)
    decided true false is same_ rest = ap (λ zs. has zs x) (filter_yes t y ys is) ∙ ap (λ b. b || has (filter t ys) x) same_ ∙ rest ∙ sym (ap (λ b. (b || has ys x) && t x) same_)
    decided false true is same_ rest = let fails : t x ≡ false = ap t (same_is x y same_) ∙ is in
        ap (λ zs. has zs x) (filter_no t y ys is) ∙ rest ∙ ap (λ b. has ys x && b) fails ∙ never (has ys x) ∙ sym (ap (λ b. (same x y || has ys x) && b) fails ∙ never (same x y || has ys x))
      where
        never : (b : Bool) → (b && false) ≡ false
        never true = refl
        never false = refl
    decided false false is same_ rest = ap (λ zs. has zs x) (filter_no t y ys is) ∙ rest ∙ sym (ap (λ b. (b || has ys x) && t x) same_)

pub once_kept : (t : Itv → Bool) (ms : List Itv) → pairwise differ ms ≡ true → pairwise differ (filter t ms) ≡ true
once_kept t [] once = refl
once_kept t (y ∷ ys) once = let two = both_true (list_all (differ y) ys) (pairwise differ ys) once in decided (t y) refl two.0 (once_kept t ys two.1)
  where
    decided : (b : Bool) → t y ≡ b → list_all (differ y) ys ≡ true → pairwise differ (filter t ys) ≡ true → pairwise differ (filter t (y ∷ ys)) ≡ true
    decided true is first rest = ap (pairwise differ) (filter_yes t y ys is) ∙ true_both (list_all (differ y) (filter t ys)) (pairwise differ (filter t ys)) (all_filter (differ y) t ys first) rest
    decided false is first rest = ap (pairwise differ) (filter_no t y ys is) ∙ rest

-- each takes one place
placed_length : (before : Itv → Itv → Bool) (x : Itv) (ys : List Itv) → length (placed before x ys) ≡ 1 + length ys
placed_length before x [] = omega arith
placed_length before x (y ∷ ys) = decided (before x y) (placed_length before x ys)
  where
    decided : (b : Bool) → length (placed before x ys) ≡ 1 + length ys → length (if b then x ∷ y ∷ ys else y ∷ placed before x ys) ≡ 1 + length (y ∷ ys)
    decided true h = omega arith
    decided false h = omega (arith, h)

ordered_length : (before : Itv → Itv → Bool) (xs ys : List Itv) → length (ordered_from before xs ys) ≡ length xs + length ys
ordered_length before xs [] = omega arith
ordered_length before xs (y ∷ ys) = omega (arith, ordered_length before (placed before y xs) ys, placed_length before y xs)

kept_fewer : {X : Type 0} (p : X → Bool) (xs : List X) → length (filter p xs) ≤ length xs
kept_fewer p [] = omega arith
kept_fewer p (x ∷ xs) = decided (p x) refl (kept_fewer p xs)
  where
    decided : (b : Bool) → p x ≡ b → length (filter p xs) ≤ length xs → length (filter p (x ∷ xs)) ≤ length (x ∷ xs)
    decided true is h = omega (arith, ap length (filter_yes p x xs is), h)
    decided false is h = omega (arith, ap length (filter_no p x xs is), h)

pub ordered_few : (before : Itv → Itv → Bool) (p : Itv → Bool) (ms : List Itv) → length (ordered_from before [] (filter p ms)) ≤ length ms
ordered_few before p ms = omega (arith, ordered_length before [] (filter p ms), kept_fewer p ms)
