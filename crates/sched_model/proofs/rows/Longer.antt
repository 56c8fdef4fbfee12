-- An order of distinct members is no longer than the members are many.
use Rattle.std.proofs.Common.{◌≡◌, inl, inr, ◌<◌, ◌≤◌, Bool, true, false, not, ◌&&◌, ◌||◌, List, [], ◌∷◌, length, refl, sym, ap, ◌∙◌, arith}
use Rattle.std.specs.Cmp.{IsEquivalence}
use Rattle.std.specs.List.{AllByRecursion, IsDistinct, list_all}
use Rattle.std.proofs.lemmas.Bool.{and_parts, or_cases}
use Rattle.std.proofs.lemmas.Cmp.{nat_eq_equiv}
use Rattle.std.proofs.lemmas.Map.Made.{length-le_from_is_member}
use Rattle.sched_base.specs.declared.ids.Itv.{Itv}
use Rattle.sched_model.specs.declared.types.Assignment.{Assignment}
use Rattle.sched_model.specs.declared.types.SequenceDef.{SequenceDef}
use Rattle.sched_model.specs.Words.{◌implies◌, pairwise}
use Rattle.sched_model.specs.Data.{same, has}
use Rattle.sched_model.specs.Value.{is_present}
use Rattle.sched_model.specs.Domain.{lists_present}

same_laws : IsEquivalence same
same_laws = record { refl = λ x. nat_eq_equiv.refl x.0; symm = λ x y. nat_eq_equiv.symm x.0 y.0; congr = λ x y z h. nat_eq_equiv.congr x.0 y.0 z.0 h }

not_false : (b : Bool) → not b ≡ true → b ≡ false
not_false true h = cc
not_false false h = refl

unlike_each : (x : Itv) (ys : List Itv) → list_all (λ y. not (same x y)) ys ≡ true → AllByRecursion (λ y. same x y ≡ false) ys
unlike_each x [] h = tt
unlike_each x (y ∷ ys) h = let parts = and_parts (not (same x y)) _ h in (not_false (same x y) parts.0, unlike_each x ys parts.1)

distinct : (xs : List Itv) → pairwise (λ x y. not (same x y)) xs ≡ true → IsDistinct same xs
unfolding IsDistinct
distinct [] h = tt
distinct (x ∷ xs) h = let parts = and_parts (list_all (λ y. not (same x y)) xs) _ h in (unlike_each x xs parts.0, distinct xs parts.1)

has_same : (ms : List Itv) (q x : Itv) → same q x ≡ true → has ms q ≡ has ms x
has_same [] q x h = refl
has_same (m ∷ ms) q x h = ap (λ b. b || has ms q) (same_laws.congr q x m h) ∙ ap (λ b. same x m || b) (has_same ms q x h)

are_members : (a : Assignment) (ms xs : List Itv) → list_all (λ x. has ms x && is_present a x) xs ≡ true → (q : Itv) → has xs q ≡ true → has ms q ≡ true
are_members a ms [] all q h = cc
are_members a ms (x ∷ xs) all q h = let parts = and_parts (has ms x && is_present a x) _ all in elim (or_cases (same q x) (has xs q) h) [
  | inl here ↦ has_same ms q x here ∙ (and_parts (has ms x) (is_present a x) parts.0).0
  | inr later ↦ are_members a ms xs parts.1 q later
]

at_most : (a : Assignment) (p : SequenceDef) (xs : List Itv) → lists_present a p xs ≡ true → length xs ≤ length p.members
at_most a p xs h =
    let parts = and_parts (pairwise (λ x y. not (same x y)) xs) _ (and_parts _ (list_all (λ x. is_present a x implies has xs x) p.members) h).0 in
    length-le_from_is_member same_laws xs p.members (distinct xs parts.0) (are_members a p.members xs parts.1)

pub longer_fails : (a : Assignment) (p : SequenceDef) (xs : List Itv) → length p.members < length xs → false ≡ lists_present a p xs
longer_fails a p xs more = decided (lists_present a p xs) refl
  where
    decided : (b : Bool) → lists_present a p xs ≡ b → false ≡ lists_present a p xs
    decided true h = absurd (omega (arith, more, at_most a p xs h))
    decided false h = sym h
