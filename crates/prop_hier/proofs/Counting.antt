-- The numbers of parts: what they tell of the rows, and what a guess on one part makes of them.
use Rattle.std.specs.Prelude.{◌≡◌, ℕ, ◌+◌, ◌-◌, ◌<◌, ◌≤◌, ◌^◌, Bool, true, false, not, ◌||◌, if◌then◌else◌, List, [], ◌∷◌, length, cond, nat_lt}
use Rattle.std.specs.List.{list_any, list_all, count_by}
use Rattle.std.proofs.Common.{inl, inr, refl, sym, ap, subst, ◌∙◌, arith}
use Rattle.std.proofs.lemmas.Bool.{true≢false, not-true}
use Rattle.std.proofs.lemmas.Bool.Decides.{nat_tests}
use Rattle.std.proofs.lemmas.List.Sums.{sum_by-cons, count_by-le-length}
use Rattle.sched_base.specs.declared.ids.Itv.{Itv}
use Rattle.sched_model.specs.Data.{same, has}
use Rattle.sched_model.specs.Valid.{are_distinct}
use Rattle.region.specs.declared.types.Presence.{Presence}
use Rattle.region.specs.declared.types.Presence.TheVariants.{Absent, Present, Maybe}
use Rattle.region.specs.declared.types.Bounds.{Bounds}
use Rattle.region.specs.declared.types.Topic.{Topic}
use Rattle.region.specs.declared.types.Topic.TheVariants.{One, Two}
use Rattle.region.specs.Claims.{guessed}
use Rattle.region.specs.Cells.{Region, bounds_of}
use Rattle.region.specs.Guesses.{assumed}
use Rattle.region.specs.laws.Lists.{both_true}
use Rattle.region.specs.laws.Intervals.{bounds_elsewhere}
use Rattle.region.specs.laws.OneSequence.{same_is, same_turned, has_cases}
use Rattle.refute_hier.specs.declared.parts.Role.{Role}
use Rattle.refute_hier.specs.declared.parts.Role.TheVariants.{IsThere, StartsBefore, EndsAfter, Clashes, MayStart, MayEnd, MayMatch}
use Rattle.refute_hier.specs.Parts.{plays, plays_in}
use Rattle.refute_hier.specs.Alt.{is_crowded, is_short}
use Rattle.region.specs.laws.Found.{never}
use Rattle.refute_hier.specs.declared.family.Kind.{Kind}
use Rattle.refute_hier.specs.declared.family.Kind.TheVariants.{Span, Alternative, Synchronize}
use Rattle.prop_hier.specs.declared.counts.Counts.{Counts}
use Rattle.refute_hier.specs.code.Rows.{some_case, some_refutes}
use Rattle.prop_hier.specs.code.Counts.{asks, counted, counts_of, one_if, recounted, counts_after, counts_refute}
use Rattle.prop_hier.specs.code.Few.{AreFew}
use Rattle.prop_hier.specs.code.Ready.{IsReady, is_about, is_quick}

-- one element more
count_cons : {X : Type 0} (p : X → Bool) (x : X) (xs : List X) → count_by p (x ∷ xs) ≡ one_if (p x) + count_by p xs
count_cons p x xs = sum_by-cons (λ y. cond (p y) 1 0) x xs

-- some are counted where some pass
one_more : (n : ℕ) → nat_lt 0 (1 + n) ≡ true
one_more n = grind (arith, nat_tests)

nothing_more : (n : ℕ) → 0 + n ≡ n
nothing_more n = omega arith

some_if : (b c : Bool) (n : ℕ) → nat_lt 0 n ≡ c → nat_lt 0 (one_if b + n) ≡ (b || c)
some_if true c n rest = one_more n
some_if false c n rest = ap (nat_lt 0) (nothing_more n) ∙ rest

some_counted : {X : Type 0} (p : X → Bool) (xs : List X) → nat_lt 0 (count_by p xs) ≡ list_any p xs
some_counted p [] = refl
some_counted p (x ∷ xs) = ap (nat_lt 0) (count_cons p x xs) ∙ some_if (p x) (list_any p xs) (count_by p xs) (some_counted p xs)

-- the numbers tell whether some row refutes
counts_tell : (kind : Kind) (p : Presence) (r : Region) (a : Itv) (bs : List Itv) → counts_refute kind p (counts_of kind r a bs) ≡ some_case kind p r a bs
counts_tell Span Absent r a bs = some_counted (plays_in r IsThere a) bs
counts_tell Span Present r a bs = rw (← some_counted (plays_in r MayStart a) bs, ← some_counted (plays_in r MayEnd a) bs, ← some_counted (plays_in r StartsBefore a) bs, ← some_counted (plays_in r EndsAfter a) bs) refl
counts_tell Span Maybe r a bs = rw (← some_counted (plays_in r StartsBefore a) bs, ← some_counted (plays_in r EndsAfter a) bs) refl
counts_tell (Alternative n) Absent r a bs = ap (λ b. b || is_crowded r n a bs) (some_counted (plays_in r IsThere a) bs)
counts_tell (Alternative n) Present r a bs = ap (λ b. is_crowded r n a bs || is_short r n a bs || b) (some_counted (plays_in r Clashes a) bs)
counts_tell (Alternative n) Maybe r a bs = ap (λ b. is_crowded r n a bs || b) (some_counted (plays_in r Clashes a) bs)
counts_tell Synchronize Absent r a bs = refl
counts_tell Synchronize Present r a bs = some_counted (plays_in r Clashes a) bs
counts_tell Synchronize Maybe r a bs = refl

pub plain_told : (kind : Kind) (r : Region) (a : Itv) (bs : List Itv) (n : Counts) (p : Presence) (b : Bool) → n ≡ counts_of kind r a bs → p ≡ (bounds_of r a).presence → b ≡ counts_refute kind p n → b ≡ some_refutes kind r a bs
plain_told kind r a bs n p b counts presence is = is ∙ ap (counts_refute kind p) counts ∙ counts_tell kind p r a bs ∙ ap (λ q. some_case kind q r a bs) presence

-- where one element of a list without repeats passes another test
turned : (x y : Itv) → not (same x y) ≡ true → same y x ≡ false
turned x y h = same_turned x y (not-true (same x y) h)

same_count : (q p : Itv → Bool) (x : Itv) (xs : List Itv) → ((y : Itv) → same y x ≡ false → p y ≡ q y) → list_all (λ y. not (same x y)) xs ≡ true → count_by p xs ≡ count_by q xs
same_count q p x [] others apart = refl
same_count q p x (y ∷ ys) others apart =
    let two = both_true (not (same x y)) (list_all (λ z. not (same x z)) ys) apart in
    count_cons p y ys ∙ ap (λ b. one_if b + count_by p ys) (others y (turned x y two.0)) ∙ ap (λ n. one_if (q y) + n) (same_count q p x ys others two.1) ∙ sym (count_cons q y ys)

regroup_here : (i j n k l : ℕ) → k ≡ i + n → l ≡ j + n → (k - i) + j ≡ l
regroup_here i j n k l first second = omega (arith, first, second)

regroup_later : (i j e n m k l : ℕ) → k ≡ e + n → l ≡ e + m → (n - i) + j ≡ m → i ≤ n → (k - i) + j ≡ l
regroup_later i j e n m k l first second rest less = omega (arith, first, second, rest, less)

-- one that is listed is counted
counted_there : (q : Itv → Bool) (x : Itv) (xs : List Itv) → has xs x ≡ true → one_if (q x) ≤ count_by q xs
counted_there q x [] h = never h
counted_there q x (z ∷ zs) h = let n = count_cons q z zs in elim (has_cases (same x z) (has zs x) h) [
  | inl here ↦ (let one : one_if (q z) ≤ count_by q (z ∷ zs) = omega (arith, n) in subst (λ y. one_if (q y) ≤ count_by q (z ∷ zs)) (sym (same_is x z here)) one)
  | inr later ↦ (let rest = counted_there q x zs later in omega (arith, n, rest))
]

counted_here : (q p : Itv → Bool) (x : Itv) (zs : List Itv) → ((y : Itv) → same y x ≡ false → p y ≡ q y) → list_all (λ y. not (same x y)) zs ≡ true → (count_by q (x ∷ zs) - one_if (q x)) + one_if (p x) ≡ count_by p (x ∷ zs)
counted_here q p x zs others apart =
    regroup_here (one_if (q x)) (one_if (p x)) (count_by q zs) (count_by q (x ∷ zs)) (count_by p (x ∷ zs)) (count_cons q x zs) (count_cons p x zs ∙ ap (λ n. one_if (p x) + n) (same_count q p x zs others apart))

counted_later : (q p : Itv → Bool) (x z : Itv) (zs : List Itv) → p z ≡ q z → has zs x ≡ true → (count_by q zs - one_if (q x)) + one_if (p x) ≡ count_by p zs → (count_by q (z ∷ zs) - one_if (q x)) + one_if (p x) ≡ count_by p (z ∷ zs)
counted_later q p x z zs kept there rest =
    regroup_later (one_if (q x)) (one_if (p x)) (one_if (q z)) (count_by q zs) (count_by p zs) (count_by q (z ∷ zs)) (count_by p (z ∷ zs)) (count_cons q z zs) (count_cons p z zs ∙ ap (λ b. one_if b + count_by p zs) kept) rest (counted_there q x zs there)

one_counted_anew : (q p : Itv → Bool) (x z : Itv) (zs : List Itv) (b : Bool) → same x z ≡ b → ((y : Itv) → same y x ≡ false → p y ≡ q y) → list_all (λ y. not (same z y)) zs ≡ true → (b || has zs x) ≡ true
    → (has zs x ≡ true → (count_by q zs - one_if (q x)) + one_if (p x) ≡ count_by p zs) → (count_by q (z ∷ zs) - one_if (q x)) + one_if (p x) ≡ count_by p (z ∷ zs)
one_counted_anew q p x z zs true e others apart there rest =
    subst (λ y. (count_by q (y ∷ zs) - one_if (q x)) + one_if (p x) ≡ count_by p (y ∷ zs)) (same_is x z e) (counted_here q p x zs others (subst (λ w. list_all (λ y. not (same w y)) zs ≡ true) (sym (same_is x z e)) apart))
one_counted_anew q p x z zs false e others apart there rest = counted_later q p x z zs (others z (same_turned x z e)) there (rest there)

counted_anew : (q p : Itv → Bool) (x : Itv) (xs : List Itv) → are_distinct xs ≡ true → has xs x ≡ true → ((y : Itv) → same y x ≡ false → p y ≡ q y) → (count_by q xs - one_if (q x)) + one_if (p x) ≡ count_by p xs
counted_anew q p x [] distinct there others = never there
counted_anew q p x (z ∷ zs) distinct there others =
    let two = both_true (list_all (λ y. not (same z y)) zs) (are_distinct zs) distinct in
    one_counted_anew q p x z zs (same x z) refl others two.0 there (λ later. counted_anew q p x zs two.1 later others)

-- a guess on a part leaves the bounds of the others
pub other_kept : (t : Topic) (r : Region) (x z : Itv) → is_about t x ≡ true → same z x ≡ false → bounds_of (assumed t r) z ≡ bounds_of r z
other_kept (One y c) r x z about other = bounds_elsewhere y z (guessed c) r (apart z y (subst (λ w. same z w ≡ false) (sym (same_is y x about)) other))
  where
    apart : (z y : Itv) → same z y ≡ false → z.0 ≡ y.0 → ⊥
    apart z y h e = grind (arith, nat_tests)
other_kept (Two p y w) r x z about other = never about

role_counted : (kind : Kind) (role : Role) (r q : Region) (a x : Itv) (bs : List Itv) → are_distinct bs ≡ true → has bs x ≡ true → bounds_of q a ≡ bounds_of r a → ((z : Itv) → same z x ≡ false → bounds_of q z ≡ bounds_of r z)
    → recounted kind role (bounds_of r a) (bounds_of r x) (bounds_of q x) (counted kind role r a bs) ≡ counted kind role q a bs
role_counted kind role r q a x bs distinct there whole others = by_case (asks kind role)
  where
    test : Region → Itv → Bool
    test k b = plays role (bounds_of r a) (bounds_of k b)

    whole_same : count_by (test q) bs ≡ count_by (plays_in q role a) bs
    whole_same = ap (λ c. count_by (λ b. plays role c (bounds_of q b)) bs) (sym whole)

    by_case : (b : Bool) → (if b then ((if b then count_by (plays_in r role a) bs else 0) - one_if (plays role (bounds_of r a) (bounds_of r x))) + one_if (plays role (bounds_of r a) (bounds_of q x)) else 0) ≡ (if b then count_by (plays_in q role a) bs else 0)
    by_case true = counted_anew (test r) (test q) x bs distinct there (λ y other. ap (plays role (bounds_of r a)) (others y other)) ∙ whole_same
    by_case false = refl

pub recounted_all : (kind : Kind) (r q : Region) (a x : Itv) (bs : List Itv) → are_distinct bs ≡ true → has bs x ≡ true → bounds_of q a ≡ bounds_of r a → ((z : Itv) → same z x ≡ false → bounds_of q z ≡ bounds_of r z)
    → counts_after kind (bounds_of r a) (bounds_of r x) (bounds_of q x) (counts_of kind r a bs) ≡ counts_of kind q a bs
recounted_all kind r q a x bs distinct there whole others =
    rw (
      role_counted kind IsThere r q a x bs distinct there whole others,
      role_counted kind StartsBefore r q a x bs distinct there whole others,
      role_counted kind EndsAfter r q a x bs distinct there whole others,
      role_counted kind Clashes r q a x bs distinct there whole others,
      role_counted kind MayStart r q a x bs distinct there whole others,
      role_counted kind MayEnd r q a x bs distinct there whole others,
      role_counted kind MayMatch r q a x bs distinct there whole others,
    ) refl

-- a member that isn't the interval is a part
pub is_part : (a x : Itv) (bs : List Itv) → has (a ∷ bs) x ≡ true → same x a ≡ false → has bs x ≡ true
is_part a x bs h other = elim (has_cases (same x a) (has bs x) h) [ inl same ↦ absurd (true≢false (sym same ∙ other)) | inr later ↦ later ]

-- what the numbers tell under a guess on a part
pub part_told : (kind : Kind) (r q : Region) (a x : Itv) (bs : List Itv) (n : Counts) (whole old new : Bounds) (t : Topic) (b : Bool) → IsReady kind r a bs n x → q ≡ assumed t r → is_about t x ≡ true → same x a ≡ false
    → whole ≡ bounds_of r a → old ≡ bounds_of r x → new ≡ bounds_of q x → b ≡ counts_refute kind whole.presence (counts_after kind whole old new n) → b ≡ some_refutes kind q a bs
part_told kind r q a x bs n whole old new t b ready region about apart first second third is =
    let others : (z : Itv) → same z x ≡ false → bounds_of q z ≡ bounds_of r z = λ z other. ap (λ k. bounds_of k z) region ∙ other_kept t r x z about other in
    let same_whole : bounds_of q a ≡ bounds_of r a = others a (same_turned x a apart) in
    is ∙ rw (first, second, third, ready.counts) refl ∙ ap (counts_refute kind (bounds_of r a).presence) (recounted_all kind r q a x bs ready.parts.distinct (is_part a x bs ready.member apart) same_whole others)
    ∙ counts_tell kind (bounds_of r a).presence q a bs ∙ ap (λ c. some_case kind c.presence q a bs) (sym same_whole)

few_counted : (kind : Kind) (role : Role) (r : Region) (a : Itv) (bs : List Itv) → length bs < 2 ^ 32 → counted kind role r a bs < 2 ^ 32
few_counted kind role r a bs few = by_case (asks kind role)
  where
    by_case : (b : Bool) → (if b then count_by (plays_in r role a) bs else 0) < 2 ^ 32
    by_case true = let n = count_by-le-length (plays_in r role a) bs in omega (arith, n, few)
    by_case false = omega arith

pub counts_few : (kind : Kind) (r : Region) (a x : Itv) (bs : List Itv) (n : Counts) → IsReady kind r a bs n x → AreFew n
counts_few kind r a x bs n ready = subst AreFew (sym ready.counts) (record {
  there = few_counted kind IsThere r a bs ready.parts.few;
  starts_before = few_counted kind StartsBefore r a bs ready.parts.few;
  ends_after = few_counted kind EndsAfter r a bs ready.parts.few;
  clashes = few_counted kind Clashes r a bs ready.parts.few;
  may_start = few_counted kind MayStart r a bs ready.parts.few;
  may_end = few_counted kind MayEnd r a bs ready.parts.few;
  may_match = few_counted kind MayMatch r a bs ready.parts.few;
})

pub quick_parts : (a x : Itv) (t : Topic) → is_quick a x t ≡ true → (same x a ≡ false) × (is_about t x ≡ true)
quick_parts a x t h = let two = both_true (not (same x a)) (is_about t x) h in (not-true (same x a) two.0, two.1)
