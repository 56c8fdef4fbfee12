-- The numbers of sets one by one, and reading them.
use Rattle.std.specs.Prelude.{◌≡◌, ℕ, zero, suc, ◌+◌, ◌-◌, ◌<◌, ◌≤◌, ℤ, pos, true, false, ◌&&◌, List, [], ◌∷◌, ◌++◌, Some, take, drop, length, map, nat_lt, slice_get, IsTrue}
use Rattle.std.specs.List.{list_all}
use Rattle.std.proofs.Common.{refl, sym, ap, ◌∙◌, arith, get_or, length-append}
use Rattle.std.proofs.lemmas.Bool.{true≢false}
use Rattle.std.proofs.lemmas.List.{length-map, length-take-le, take_more, take-append-drop, append-nil}
use Rattle.base_laws.specs.laws.Items.{all_push}
use Rattle.sched_model.specs.Words.{adjacent}
use Rattle.sched_model.specs.Bounds.{is_number}
use Rattle.region.specs.laws.Lists.{both_true}
use Rattle.refute_seq.specs.Witness.{set_numbers, is_number_set}
use Rattle.refute_seq.specs.laws.SetNumbers.{set_count, members_told, set_split}

-- one number
pub number_first : (s : List ℕ) (n : ℕ) → n ≡ 0 → slice_get (set_numbers s) n ≡ Some (pos (length s))
number_first s n is = ap (slice_get (set_numbers s)) is

member_at : (s : List ℕ) (k n : ℕ) → k < length s → n ≡ get_or s k 0 → slice_get (map (λ i. pos i) s) k ≡ Some (pos n)
member_at [] k n within is = absurd (omega (arith, within))
member_at (i ∷ s) zero n within is = ap (λ j. Some (pos j)) (sym is)
member_at (i ∷ s) (suc k) n within is = member_at s k n (omega (arith, within)) is

number_later : (s : List ℕ) (k n : ℕ) → k < length (set_numbers s) → (k ≡ 0 → ⊥) → n ≡ get_or s (k - 1) 0 → slice_get (set_numbers s) k ≡ Some (pos n)
number_later s zero n within other is = absurd (other refl)
number_later s (suc k) n within other is = member_at s k n (omega (arith, within, set_count s)) (is ∙ ap (λ j. get_or s j 0) (before k))
  where
    before : (k : ℕ) → suc k - 1 ≡ k
    before k = omega arith

pub number_read : (s : List ℕ) (k : ℕ) (z : ℤ) → k < length (set_numbers s) → (k ≡ 0 → ⊥) → z ≡ pos (get_or s (k - 1) 0) → slice_get (set_numbers s) k ≡ Some z
number_read s k z within other is = number_later s k (get_or s (k - 1) 0) within other refl ∙ ap (λ y. Some y) (sym is)

-- reading one member more
pub read_next : (s t : List ℕ) (members : List ℤ) (k n : ℕ) (z : ℤ) → t ≡ s ++ n ∷ [] → map (λ i. pos i) s ≡ take k members → k < length members → z ≡ get_or members k (pos 0) → z ≡ pos n → map (λ i. pos i) t ≡ take (k + 1) members
read_next s t members k n z more before within at is =
    ap (λ ks. map (λ i. pos i) ks) more ∙ added s n ∙ ap (λ zs. zs ++ pos n ∷ []) before ∙ ap (λ y. take k members ++ y ∷ []) (sym is ∙ at) ∙ sym (take_more members k (pos 0) within)
  where
    added : (s : List ℕ) (n : ℕ) → map (λ i. pos i) (s ++ n ∷ []) ≡ map (λ i. pos i) s ++ pos n ∷ []
    added [] n = refl
    added (i ∷ s) n = ap (λ zs. pos i ∷ zs) (added s n)

pub named_next : (s t : List ℕ) (n : ℕ) → t ≡ s ++ n ∷ [] → list_all is_number s ≡ true → is_number n ≡ true → list_all is_number t ≡ true
named_next s t n more h k = ap (list_all is_number) more ∙ all_push is_number s n h k

-- a number that can't be a member
pub no_member : (s : List ℕ) (members : List ℤ) (k : ℕ) (z : ℤ) → k < length members → z ≡ get_or members k (pos 0) → ((n : ℕ) → IsTrue (is_number n) → z ≡ pos n → ⊥) → IsTrue (list_all is_number s) → map (λ i. pos i) s ≡ members → ⊥
no_member [] [] k z within at none all same = absurd (omega (arith, within))
no_member [] (y ∷ ys) k z within at none all same = cc
no_member (n ∷ s) [] k z within at none all same = absurd (omega (arith, within))
no_member (n ∷ s) (y ∷ ys) zero z within at none all same = none n (both_true (is_number n) (list_all is_number s) all).0 (at ∙ head y (pos n) ys _ same)
  where
    head : (y x : ℤ) (ys xs : List ℤ) → x ∷ xs ≡ y ∷ ys → y ≡ x
    head y x ys xs same = cc
no_member (n ∷ s) (y ∷ ys) (suc k) z within at none all same = no_member s ys k z (omega (arith, within)) at none (both_true (is_number n) (list_all is_number s) all).1 (rest y (pos n) ys _ same)
  where
    rest : (y x : ℤ) (ys xs : List ℤ) → x ∷ xs ≡ y ∷ ys → xs ≡ ys
    rest y x ys xs same = cc

-- members that don't rise
pub not_rising : (set s : List ℕ) (members : List ℤ) → map (λ i. pos i) set ≡ members → false ≡ adjacent nat_lt set → IsTrue (is_number_set s) → map (λ i. pos i) s ≡ members → ⊥
not_rising set s members read down valid same =
    true≢false (sym (both_true (adjacent nat_lt s) (list_all is_number s) valid).0 ∙ ap (adjacent nat_lt) (members_told s set (same ∙ sym read)) ∙ sym down)

pub is_rising : (set : List ℕ) → list_all is_number set ≡ true → true ≡ adjacent nat_lt set → is_number_set set ≡ true
is_rising set all up = ap (λ b. b && list_all is_number set) (sym up) ∙ all

-- a set in front of other numbers
pub nothing_in_front : (s : List ℕ) (rest : List ℤ) → set_numbers s ++ rest ≡ [] → ⊥
nothing_in_front s rest same = cc

same_count : (count : ℤ) (members zs : List ℤ) (n : ℕ) → pos n ∷ zs ≡ count ∷ members → count ≡ pos n
same_count count members zs n same = cc

same_members : (count : ℤ) (members zs : List ℤ) (n : ℕ) → pos n ∷ zs ≡ count ∷ members → zs ≡ members
same_members count members zs n same = cc

pub front_count : (count : ℤ) (members : List ℤ) (s : List ℕ) (rest : List ℤ) → set_numbers s ++ rest ≡ count ∷ members → count ≡ pos (length s)
front_count count members s rest same = same_count count members (map (λ i. pos i) s ++ rest) (length s) same

pub front_fits : (count : ℤ) (members : List ℤ) (s : List ℕ) (rest : List ℤ) → set_numbers s ++ rest ≡ count ∷ members → length s ≤ length members
front_fits count members s rest same =
    let whole = ap (λ (zs : List ℤ). length zs) (same_members count members (map (λ i. pos i) s ++ rest) (length s) same) in
    omega (arith, whole, length-append (map (λ i. pos i) s) rest, length-map s (λ i. pos i))

taken : (s : List ℕ) (rest members : List ℤ) → map (λ i. pos i) s ++ rest ≡ members → map (λ i. pos i) s ≡ take (length s) members
taken [] rest members same = refl
taken (n ∷ s) rest [] same = cc
taken (n ∷ s) rest (y ∷ ys) same = joined (pos n) y (map (λ i. pos i) s) (take (length s) ys) (head (pos n) y _ ys same) (taken s rest ys (behind (pos n) y _ ys same))
  where
    head : (x y : ℤ) (xs ys : List ℤ) → x ∷ xs ≡ y ∷ ys → x ≡ y
    head x y xs ys same = cc

    behind : (x y : ℤ) (xs ys : List ℤ) → x ∷ xs ≡ y ∷ ys → xs ≡ ys
    behind x y xs ys same = cc

    joined : (x y : ℤ) (xs ys : List ℤ) → x ≡ y → xs ≡ ys → x ∷ xs ≡ y ∷ ys
    joined x y xs ys f g = cc

pub front_members : (count : ℤ) (members : List ℤ) (s : List ℕ) (rest : List ℤ) (k : ℕ) → set_numbers s ++ rest ≡ count ∷ members → count ≡ pos k → map (λ i. pos i) s ≡ take k members
front_members count members s rest k same is =
    taken s rest members (same_members count members (map (λ i. pos i) s ++ rest) (length s) same)
    ∙ ap (λ n. take n members) (same_number (length s) k (sym (front_count count members s rest same) ∙ is))
  where
    same_number : (a b : ℕ) → pos a ≡ pos b → a ≡ b
    same_number a b h = cc

pub front_read : (numbers : List ℤ) (count : ℤ) (members : List ℤ) (s : List ℕ) (k : ℕ) → numbers ≡ count ∷ members → count ≡ pos k → k ≤ length members → map (λ i. pos i) s ≡ take k members → set_numbers s ++ drop (1 + length s) numbers ≡ numbers
front_read numbers count members s k is counted fits read =
    ap (λ zs. set_numbers s ++ drop (1 + length s) zs) is
    ∙ ap (λ zs. set_numbers s ++ zs) (dropped (length s) count members)
    ∙ ap (λ n. pos n ∷ (map (λ i. pos i) s ++ drop n members)) size
    ∙ ap (λ z. z ∷ (map (λ i. pos i) s ++ drop k members)) (sym counted)
    ∙ ap (λ zs. count ∷ (zs ++ drop k members)) read
    ∙ ap (λ zs. count ∷ zs) (take-append-drop k members)
    ∙ sym is
  where
    dropped : (n : ℕ) (z : ℤ) (zs : List ℤ) → drop (1 + n) (z ∷ zs) ≡ drop n zs
    dropped n z zs = ap (λ j. drop j (z ∷ zs)) (one_more n)
      where
        one_more : (n : ℕ) → 1 + n ≡ suc n
        one_more n = omega arith

    size : length s ≡ k
    size = let long = ap (λ (zs : List ℤ). length zs) read in omega (arith, long, fits, length-map s (λ i. pos i), length-take-le k members fits)

pub front_within : (s : List ℕ) (rest numbers : List ℤ) → set_numbers s ++ rest ≡ numbers → length s < length numbers
front_within s rest numbers whole = let long = ap (λ (zs : List ℤ). length zs) whole in omega (arith, long, set_count s, length-append (set_numbers s) rest)

-- a set that is all of the numbers
pub all_read : (s : List ℕ) (numbers : List ℤ) → set_numbers s ++ drop (1 + length s) numbers ≡ numbers → length (set_numbers s) ≡ length numbers → set_numbers s ≡ numbers
all_read s numbers whole size = sym (ap (λ zs. set_numbers s ++ zs) (none (1 + length s) numbers (omega (arith, size, set_count s))) ∙ append-nil (set_numbers s)) ∙ whole
  where
    none : (n : ℕ) (zs : List ℤ) → length zs ≤ n → drop n zs ≡ []
    none zero [] h = refl
    none (suc n) [] h = refl
    none zero (z ∷ zs) h = absurd (omega (arith, h))
    none (suc n) (z ∷ zs) h = none n zs (omega (arith, h))

pub some_left : (s t : List ℕ) (numbers : List ℤ) → set_numbers s ++ drop (1 + length s) numbers ≡ numbers → (length (set_numbers s) ≡ length numbers → ⊥) → set_numbers t ≡ numbers → ⊥
some_left s t numbers whole more same =
    more (ap (λ k. length (set_numbers k)) (set_split s t (drop (1 + length s) numbers) [] (whole ∙ sym same ∙ sym (append-nil (set_numbers t)))).0 ∙ ap (λ (zs : List ℤ). length zs) same)
