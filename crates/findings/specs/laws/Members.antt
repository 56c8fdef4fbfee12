-- Which intervals and pairs lists have, and which topics are among them.
use Rattle.std.specs.Prelude.{◌≡◌, ◌⊎◌, ℕ, zero, suc, ◌<◌, Bool, true, false, ◌&&◌, ◌||◌, List, [], ◌∷◌, length, nat_eq}
use Rattle.std.proofs.Common.{inl, inr, refl, sym, ap, ◌∙◌, arith, take, get_or}
use Rattle.std.proofs.lemmas.Bool.Decides.{nat_tests}
use Rattle.std.specs.List.{list_any}
use Rattle.std.proofs.lemmas.Bool.{or_left, or_right}
use Rattle.sched_base.specs.declared.ids.Itv.{Itv}
use Rattle.sched_base.specs.declared.ids.Seq.{Seq}
use Rattle.sched_model.specs.Data.{same}
use Rattle.region.specs.declared.types.Topic.{Topic}
use Rattle.region.specs.declared.types.Topic.TheVariants.{One, Two}
use Rattle.region.specs.Topics.{asks_each}
use Rattle.region.specs.laws.Lists.{both_true, true_both}
use Rattle.region.specs.laws.OneSequence.{same_is, has_cases}
use Rattle.findings.specs.declared.finding.Pair.{Pair}
use Rattle.findings.specs.code.Reads.{is_pair, has_pair, is_paired, is_among}
use Rattle.base_laws.specs.laws.Items.{any_weaker}

-- an element of the front of a list is the last of it, or one of those before
pub any_more : {X : Type 0} (test : X → Bool) (xs : List X) (n : ℕ) (x : X) → n < length xs → x ≡ get_or xs n x → list_any test (take (suc n) xs) ≡ true → (test x ≡ true) ⊎ (list_any test (take n xs) ≡ true)
any_more test [] n x within is h = absurd (omega (arith, within))
any_more test (z ∷ zs) zero x within is h = elim (has_cases (test z) false h) [ inl e ↦ inl (ap test is ∙ e) | inr e ↦ cc ]
any_more test (z ∷ zs) (suc n) x within is h = elim (has_cases (test z) (list_any test (take (suc n) zs)) h) [
  | inl e ↦ inr (or_left (test z) (list_any test (take n zs)) e)
  | inr e ↦ elim (any_more test zs n x (omega (arith, within)) is e) [ inl here ↦ inl here | inr before ↦ inr (or_right (test z) (list_any test (take n zs)) before) ]
]

pub any_at : {X : Type 0} (test : X → Bool) (xs : List X) (n : ℕ) (x : X) → n < length xs → x ≡ get_or xs n x → test x ≡ true → list_any test xs ≡ true
any_at test [] n x within is h = absurd (omega (arith, within))
any_at test (z ∷ zs) zero x within is h = or_left (test z) (list_any test zs) (sym (ap test is) ∙ h)
any_at test (z ∷ zs) (suc n) x within is h = or_right (test z) (list_any test zs) (any_at test zs n x (omega (arith, within)) is h)

-- the two of a pair are paired
either_way : (a b c d : Bool) → ((a && b) || (c && d)) ≡ true → ((a || c) ≡ true) × ((b || d) ≡ true)
either_way true true c d h = (refl, refl)
either_way true false c true h = (refl, refl)
either_way true false true false h = cc
either_way true false false false h = cc
either_way false b true true h = (refl, turned b)
  where
    turned : (b : Bool) → (b || true) ≡ true
    turned true = refl
    turned false = refl
either_way false b true false h = cc
either_way false b false d h = cc

swapped : (a b : Bool) → (a || b) ≡ true → (b || a) ≡ true
swapped true true h = refl
swapped true false h = refl
swapped false true h = refl
swapped false false h = h

pub first_paired : (ps : List Pair) (p : Seq) (x y : Itv) → has_pair ps p x y ≡ true → is_paired ps x ≡ true
first_paired ps p x y h = any_weaker (is_pair p x y) (λ q. same x q.first || same x q.second) (λ q e. (either_way (same x q.first) (same y q.second) (same x q.second) (same y q.first) (both_true (nat_eq p.0 q.sequence.0) _ e).1).0) ps h

pub second_paired : (ps : List Pair) (p : Seq) (x y : Itv) → has_pair ps p x y ≡ true → is_paired ps y ≡ true
second_paired ps p x y h = any_weaker (is_pair p x y) (λ q. same y q.first || same y q.second)
    (λ q e. swapped (same y q.second) (same y q.first) (either_way (same x q.first) (same y q.second) (same x q.second) (same y q.first) (both_true (nat_eq p.0 q.sequence.0) _ e).1).1) ps h

-- a pair is one of two guesses
abbrev pub numbered : ℕ → Seq
numbered i = record { 0 = i }

same_number : (i j : ℕ) → nat_eq i j ≡ true → i ≡ j
same_number i j h = grind (arith, nat_tests)

pub one_of_two : (p : Seq) (x y : Itv) (q : Pair) → is_pair p x y q ≡ true → (p ≡ q.sequence) × (((x ≡ q.first) × (y ≡ q.second)) ⊎ ((x ≡ q.second) × (y ≡ q.first)))
one_of_two p x y q h =
    let two = both_true (nat_eq p.0 q.sequence.0) _ h in (
      ap numbered (same_number p.0 q.sequence.0 two.0),
      elim (has_cases (same x q.first && same y q.second) (same x q.second && same y q.first) two.1) [
        | inl e ↦ let each = both_true (same x q.first) (same y q.second) e in inl (same_is x q.first each.0, same_is y q.second each.1)
        | inr e ↦ let each = both_true (same x q.second) (same y q.first) e in inr (same_is x q.second each.0, same_is y q.first each.1)
      ],
    )

same_here : (n : ℕ) → nat_eq n n ≡ true
same_here n = grind (arith, nat_tests)

pub is_forward : (q : Pair) → is_pair q.sequence q.first q.second q ≡ true
is_forward q = true_both (nat_eq q.sequence.0 q.sequence.0) _ (same_here q.sequence.0) (or_left _ _ (true_both (same q.first q.first) (same q.second q.second) (same_here q.first.0) (same_here q.second.0)))

pub is_turned : (q : Pair) → is_pair q.sequence q.second q.first q ≡ true
is_turned q = true_both (nat_eq q.sequence.0 q.sequence.0) _ (same_here q.sequence.0) (or_right _ _ (true_both (same q.second q.second) (same q.first q.first) (same_here q.second.0) (same_here q.first.0)))

-- a topic on one of some intervals is among them
pub each_among : (xs : List Itv) (t : Topic) → asks_each xs t ≡ true → is_among xs [] t ≡ true
each_among xs (One x c) h = h
each_among xs (Two p x y) h = cc
