-- A walk through the intervals of a constraint.
use Rattle.std.specs.Prelude.{◌≡◌, ◌⊎◌, ℕ, zero, suc, ◌+◌, ◌-◌, ◌<◌, ◌≤◌, Bool, true, List, [], ◌∷◌, length, Option, Some, None, take}
use Rattle.std.proofs.Common.{inl, inr, refl, sym, ap, subst, arith, drop, get_or}
use Rattle.std.proofs.lemmas.List.{take_all}
use Rattle.std.proofs.lemmas.Bool.{or_left, or_right}
use Rattle.sched_base.specs.declared.ids.Itv.{Itv}
use Rattle.sched_model.specs.Data.{same, has}
use Rattle.region.specs.declared.types.Topic.{Topic}
use Rattle.region.specs.declared.types.Topic.TheVariants.{One, Two}
use Rattle.region.specs.declared.types.Guess.{Guess}
use Rattle.region.specs.Cells.{Region}
use Rattle.region.specs.Guesses.{topic}
use Rattle.region.specs.laws.Lists.{both_true, true_both}
use Rattle.region.specs.laws.OneSequence.{same_is, same_self, has_cases}
use Rattle.findings.specs.Ends.{is_open_end}
use Rattle.findings.specs.code.Reads.{AreUnrefuted, is_among}
use Rattle.prop_hier.specs.code.Asked.{AskedFirst, AreMembers}
use Rattle.base_laws.specs.laws.Truth.{alone}

pub none_yet : (test : Option Guess → Bool) (r : Region) (xs : List Itv) → AskedFirst test r xs 0
none_yet test r xs = record { plain = λ some. absurd (omega (arith, some)); ends = λ g among open_end. absurd (off (topic g) among) }
  where
    off : (t : Topic) → is_among [] [] t ≡ true → ⊥
    off (One x c) h = cc
    off (Two p x y) h = cc

-- what is listed among the first, or next
has_more : (xs : List Itv) (n : ℕ) (x d z : Itv) → n < length xs → x ≡ get_or xs n d → has (take (suc n) xs) z ≡ true → (has (take n xs) z ≡ true) ⊎ (has (x ∷ []) z ≡ true)
has_more [] n x d z within is h = absurd (omega (arith, within))
has_more (y ∷ ys) zero x d z within is h = inr (subst (λ w. has (w ∷ []) z ≡ true) (sym is) h)
has_more (y ∷ ys) (suc n) x d z within is h = elim (has_cases (same z y) (has (take (suc n) ys) z) h) [
  | inl here ↦ inl (or_left (same z y) (has (take n ys) z) here)
  | inr later ↦ elim (has_more ys n x d z (omega (arith, within)) is later) [
    | inl before ↦ inl (or_right (same z y) (has (take n ys) z) before)
    | inr last ↦ inr last
  ]
]

among_more : (xs : List Itv) (n : ℕ) (x d : Itv) (t : Topic) → n < length xs → x ≡ get_or xs n d → is_among (take (suc n) xs) [] t ≡ true → (is_among (take n xs) [] t ≡ true) ⊎ (is_among (x ∷ []) [] t ≡ true)
among_more xs n x d (One z c) within is h = has_more xs n x d z within is h
among_more xs n x d (Two p y z) within is h = cc

plus_one : (n : ℕ) → n + 1 ≡ suc n
plus_one n = omega arith

-- none refutes among the first, and with the next
pub one_more : (test : Option Guess → Bool) (r : Region) (xs : List Itv) (n : ℕ) (x d : Itv) → n < length xs → x ≡ get_or xs n d → AskedFirst test r xs n → AreUnrefuted test r (x ∷ []) [] → AskedFirst test r xs (n + 1)
one_more test r xs n x d within is before here = record {
  plain = λ some. here None refl;
  ends = λ g among open_end. elim (among_more xs n x d (topic g) within is (subst (λ k. is_among (take k xs) [] (topic g) ≡ true) (plus_one n) among)) [
    | inl first ↦ before.ends g first open_end
    | inr last ↦ here (Some g) (true_both (is_among (x ∷ []) [] (topic g)) (is_open_end r g) last open_end)
  ];
}

-- one of the list is listed
pub has_at : (xs : List Itv) (n : ℕ) (x d : Itv) → n < length xs → x ≡ get_or xs n d → has xs x ≡ true
has_at [] n x d within is = absurd (omega (arith, within))
has_at (y ∷ ys) zero x d within is = or_left (same x y) (has ys x) (subst (λ w. same x w ≡ true) is (same_self x))
has_at (y ∷ ys) (suc n) x d within is = or_right (same x y) (has ys x) (has_at ys n x d (omega (arith, within)) is)

one_among : (xs : List Itv) (x : Itv) (t : Topic) → has xs x ≡ true → is_among (x ∷ []) [] t ≡ true → is_among xs [] t ≡ true
one_among xs x (One z c) there h = subst (λ w. has xs w ≡ true) (sym (same_is z x (alone (same z x) h))) there
one_among xs x (Two p y z) there h = cc

-- where none refutes of all, none does of one
pub of_one : (test : Option Guess → Bool) (r : Region) (xs : List Itv) (x : Itv) → has xs x ≡ true → AreUnrefuted test r xs [] → AreUnrefuted test r (x ∷ []) []
of_one test r xs x there none None asked = none None refl
of_one test r xs x there none (Some g) asked =
    let two = both_true (is_among (x ∷ []) [] (topic g)) (is_open_end r g) asked in
    none (Some g) (true_both (is_among xs [] (topic g)) (is_open_end r g) (one_among xs x (topic g) there two.0) two.1)

pub busy_at : (test : Option Guess → Bool) (r : Region) (xs bs : List Itv) (a : Itv) (n : ℕ) (x d : Itv) → AreMembers xs a bs → n < length xs → x ≡ get_or xs n d → (AreUnrefuted test r (x ∷ []) [] → ⊥) → AreUnrefuted test r (a ∷ bs) [] → ⊥
busy_at test r xs bs a n x d of within is busy none = busy (of_one test r (a ∷ bs) x (of x (has_at xs n x d within is)) none)

-- those behind a place, and those before it
has_split : (xs : List Itv) (n : ℕ) (z : Itv) → has xs z ≡ true → (has (take n xs) z ≡ true) ⊎ (has (drop n xs) z ≡ true)
has_split [] n z h = cc
has_split (y ∷ ys) zero z h = inr h
has_split (y ∷ ys) (suc n) z h = elim (has_cases (same z y) (has ys z) h) [
  | inl here ↦ inl (or_left (same z y) (has (take n ys) z) here)
  | inr later ↦ elim (has_split ys n z later) [
    | inl before ↦ inl (or_right (same z y) (has (take n ys) z) before)
    | inr behind ↦ inr behind
  ]
]

has_take : (xs : List Itv) (n : ℕ) (z : Itv) → has (take n xs) z ≡ true → has xs z ≡ true
has_take [] zero z h = h
has_take [] (suc n) z h = h
has_take (y ∷ ys) zero z h = cc
has_take (y ∷ ys) (suc n) z h = elim (has_cases (same z y) (has (take n ys) z) h) [
  | inl here ↦ or_left (same z y) (has ys z) here
  | inr later ↦ or_right (same z y) (has ys z) (has_take ys n z later)
]

has_drop : (xs : List Itv) (n : ℕ) (z : Itv) → has (drop n xs) z ≡ true → has xs z ≡ true
has_drop [] zero z h = h
has_drop [] (suc n) z h = h
has_drop (y ∷ ys) zero z h = h
has_drop (y ∷ ys) (suc n) z h = or_right (same z y) (has ys z) (has_drop ys n z h)

pub members_before : (xs bs : List Itv) (a : Itv) (n : ℕ) → xs ≡ a ∷ bs → AreMembers (take n xs) a bs
members_before xs bs a n same x here = subst (λ zs. has zs x ≡ true) same (has_take xs n x here)

pub members_behind : (xs bs : List Itv) (a : Itv) (n k : ℕ) → xs ≡ a ∷ bs → AreMembers (take k (drop n xs)) a bs
members_behind xs bs a n k same x here = subst (λ zs. has zs x ≡ true) same (has_drop xs n x (has_take (drop n xs) k x here))

drop_length : (xs : List Itv) (n : ℕ) → length (drop n xs) ≤ length xs - n
drop_length [] zero = omega arith
drop_length [] (suc n) = omega arith
drop_length (y ∷ ys) zero = omega arith
drop_length (y ∷ ys) (suc n) = let h = drop_length ys n in omega (arith, h)

pub all_behind : (xs : List Itv) (n : ℕ) → take (length xs - n) (drop n xs) ≡ drop n xs
all_behind xs n = take_all (length xs - n) (drop n xs) (drop_length xs n)

left_behind : (xs : List Itv) (n : ℕ) → n < length xs → 0 < length (drop n xs)
left_behind [] n h = absurd (omega (arith, h))
left_behind (y ∷ ys) zero h = omega arith
left_behind (y ∷ ys) (suc n) h = left_behind ys n (omega (arith, h))

among_all : (xs : List Itv) (z : Itv) → has xs z ≡ true → has (take (length xs) xs) z ≡ true
among_all xs z h = subst (λ zs. has zs z ≡ true) (sym (take_all (length xs) xs (omega arith))) h

split_topic : (xs : List Itv) (n : ℕ) (t : Topic) → is_among xs [] t ≡ true → (is_among (take (length (take n xs)) (take n xs)) [] t ≡ true) ⊎ (is_among (take (length (drop n xs)) (drop n xs)) [] t ≡ true)
split_topic xs n (One z c) h = elim (has_split xs n z h) [
  | inl before ↦ inl (among_all (take n xs) z before)
  | inr behind ↦ inr (among_all (drop n xs) z behind)
]
split_topic xs n (Two p y z) h = cc

-- with both all were asked
pub all_asked : (test : Option Guess → Bool) (r : Region) (xs bs : List Itv) (a : Itv) (n : ℕ) → xs ≡ a ∷ bs → n < length xs → AskedFirst test r (drop n xs) (length (drop n xs)) → AskedFirst test r (take n xs) (length (take n xs)) → AreUnrefuted test r (a ∷ bs) []
all_asked test r xs bs a n same within behind before None asked = behind.plain (left_behind xs n within)
all_asked test r xs bs a n same within behind before (Some g) asked =
    let two = both_true (is_among (a ∷ bs) [] (topic g)) (is_open_end r g) asked in
    elim (split_topic xs n (topic g) (subst (λ zs. is_among zs [] (topic g) ≡ true) (sym same) two.0)) [
      | inl first ↦ before.ends g first two.1
      | inr last ↦ behind.ends g last two.1
    ]

-- a place that is one of the list
pub place_within : (xs bs : List Itv) (a : Itv) (n : ℕ) → xs ≡ a ∷ bs → (0 < length xs → n < length xs) → n < length xs
place_within xs bs a n same h = h (let size = ap length same in omega (arith, size))
