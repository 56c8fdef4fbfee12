-- The pairs of the members of a sequence: each two of them are one.
use Rattle.std.specs.Prelude.{◌≡◌, ℕ, Bool, true, ◌||◌, List, [], ◌∷◌, ◌++◌, nat_eq}
use Rattle.std.specs.List.{list_any}
use Rattle.std.proofs.Common.{sym, subst, ◌∙◌, inl, inr, arith}
use Rattle.std.proofs.lemmas.Bool.{or_left, or_right}
use Rattle.std.proofs.lemmas.Bool.Decides.{nat_tests}
use Rattle.std.proofs.lemmas.List.Folds.{list_any-append}
use Rattle.sched_base.specs.declared.ids.Itv.{Itv}
use Rattle.sched_base.specs.declared.ids.Seq.{Seq}
use Rattle.sched_model.specs.Data.{Data, same, has, members_of}
use Rattle.region.specs.laws.Lists.{both_true, true_both}
use Rattle.region.specs.laws.OneSequence.{same_is, same_self, has_cases}
use Rattle.findings.specs.declared.finding.Pair.{Pair}
use Rattle.findings.specs.code.Reads.{is_pair, has_pair, is_paired}
use Rattle.prop_unary.specs.code.Tasks.{pairs_with, pairs_between, pairs_of}

joined : (test : Pair → Bool) (xs ys : List Pair) → (list_any test xs || list_any test ys) ≡ true → list_any test (xs ++ ys) ≡ true
joined test xs ys h = list_any-append test xs ys ∙ h

parted : (test : Pair → Bool) (xs ys : List Pair) → list_any test (xs ++ ys) ≡ true → (list_any test xs || list_any test ys) ≡ true
parted test xs ys h = sym (list_any-append test xs ys) ∙ h

number_itself : (n : ℕ) → nat_eq n n ≡ true
number_itself n = grind (arith, nat_tests)

pair_itself : (p : Seq) (u v : Itv) → is_pair p u v (record { sequence = p; first = u; second = v }) ≡ true
pair_itself p u v = true_both (nat_eq p.0 p.0) _ (number_itself p.0) (or_left _ _ (true_both (same u u) (same v v) (same_self u) (same_self v)))

with_one : (p : Seq) (u v : Itv) (ys : List Itv) → has ys v ≡ true → has_pair (pairs_with p u ys) p u v ≡ true
with_one p u v [] h = h
with_one p u v (y ∷ ys) h = elim (has_cases (same v y) (has ys v) h) [
  | inl here ↦ or_left (is_pair p u v (record { sequence = p; first = u; second = y })) (has_pair (pairs_with p u ys) p u v)
      (subst (λ (w : Itv). is_pair p u v (record { sequence = p; first = u; second = w }) ≡ true) (same_is v y here) (pair_itself p u v))
  | inr later ↦ or_right (is_pair p u v (record { sequence = p; first = u; second = y })) (has_pair (pairs_with p u ys) p u v) (with_one p u v ys later)
]

between : (p : Seq) (u v : Itv) (xs ys : List Itv) → has xs u ≡ true → has ys v ≡ true → has_pair (pairs_between p xs ys) p u v ≡ true
between p u v [] ys h k = h
between p u v (x ∷ xs) ys h k = joined (is_pair p u v) (pairs_with p x ys) (pairs_between p xs ys) (elim (has_cases (same u x) (has xs u) h) [
  | inl here ↦ or_left (has_pair (pairs_with p x ys) p u v) (has_pair (pairs_between p xs ys) p u v) (subst (λ (w : Itv). has_pair (pairs_with p w ys) p u v ≡ true) (same_is u x here) (with_one p u v ys k))
  | inr later ↦ or_right (has_pair (pairs_with p x ys) p u v) (has_pair (pairs_between p xs ys) p u v) (between p u v xs ys later k)
])

pub has_two : (m : Data) (p : Seq) (u v : Itv) → has (members_of m p) u ≡ true → has (members_of m p) v ≡ true → has_pair (pairs_of m p) p u v ≡ true
has_two m p u v h k = between p u v (members_of m p) (members_of m p) h k

-- and no pair is of another sequence, or of others than members
of_sequence : (p q : Seq) (u v x : Itv) (ys : List Itv) → has_pair (pairs_with p x ys) q u v ≡ true → nat_eq q.0 p.0 ≡ true
of_sequence p q u v x [] h = cc
of_sequence p q u v x (y ∷ ys) h = elim (has_cases (is_pair q u v (record { sequence = p; first = x; second = y })) (has_pair (pairs_with p x ys) q u v) h) [
  | inl here ↦ (both_true (nat_eq q.0 p.0) _ here).0
  | inr later ↦ of_sequence p q u v x ys later
]

between_sequence : (p q : Seq) (u v : Itv) (xs ys : List Itv) → has_pair (pairs_between p xs ys) q u v ≡ true → nat_eq q.0 p.0 ≡ true
between_sequence p q u v [] ys h = cc
between_sequence p q u v (x ∷ xs) ys h = elim (has_cases (has_pair (pairs_with p x ys) q u v) (has_pair (pairs_between p xs ys) q u v) (parted (is_pair q u v) (pairs_with p x ys) (pairs_between p xs ys) h)) [
  | inl here ↦ of_sequence p q u v x ys here
  | inr later ↦ between_sequence p q u v xs ys later
]

pub named_sequence : (m : Data) (p q : Seq) (u v : Itv) → has_pair (pairs_of m p) q u v ≡ true → nat_eq q.0 p.0 ≡ true
named_sequence m p q u v h = between_sequence p q u v (members_of m p) (members_of m p) h

abbrev one_of_pair : Itv → Pair → Bool
one_of_pair u q = same u q.first || same u q.second

with_member : (p : Seq) (u x : Itv) (ys : List Itv) → is_paired (pairs_with p x ys) u ≡ true → (same u x || has ys u) ≡ true
with_member p u x [] h = cc
with_member p u x (y ∷ ys) h = elim (has_cases (same u x || same u y) (is_paired (pairs_with p x ys) u) h) [
  | inl here ↦ elim (has_cases (same u x) (same u y) here) [
    | inl one ↦ or_left (same u x) _ one
    | inr other ↦ or_right (same u x) _ (or_left (same u y) (has ys u) other)
  ]
  | inr later ↦ elim (has_cases (same u x) (has ys u) (with_member p u x ys later)) [
    | inl one ↦ or_left (same u x) _ one
    | inr other ↦ or_right (same u x) _ (or_right (same u y) (has ys u) other)
  ]
]

between_member : (p : Seq) (u : Itv) (xs ys : List Itv) → is_paired (pairs_between p xs ys) u ≡ true → (has xs u || has ys u) ≡ true
between_member p u [] ys h = cc
between_member p u (x ∷ xs) ys h = elim (has_cases (is_paired (pairs_with p x ys) u) (is_paired (pairs_between p xs ys) u) (parted (one_of_pair u) (pairs_with p x ys) (pairs_between p xs ys) h)) [
  | inl here ↦ elim (has_cases (same u x) (has ys u) (with_member p u x ys here)) [
    | inl one ↦ or_left (same u x || has xs u) (has ys u) (or_left (same u x) (has xs u) one)
    | inr other ↦ or_right (same u x || has xs u) (has ys u) other
  ]
  | inr later ↦ elim (has_cases (has xs u) (has ys u) (between_member p u xs ys later)) [
    | inl one ↦ or_left (same u x || has xs u) (has ys u) (or_right (same u x) (has xs u) one)
    | inr other ↦ or_right (same u x || has xs u) (has ys u) other
  ]
]

pub named_member : (m : Data) (p : Seq) (u : Itv) → is_paired (pairs_of m p) u ≡ true → has (members_of m p) u ≡ true
named_member m p u h = elim (has_cases (has (members_of m p) u) (has (members_of m p) u) (between_member p u (members_of m p) (members_of m p) h)) [ inl one ↦ one | inr other ↦ other ]
