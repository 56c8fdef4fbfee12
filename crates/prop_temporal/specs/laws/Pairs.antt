-- Heights are tested along the arcs of each two members at once, of one member with those that are listed behind it.
use Rattle.std.specs.Prelude.{◌≡◌, ◌⊎◌, ℕ, suc, ◌+◌, ◌<◌, ◌≤◌, ℤ, ◌+ℤ◌, ◌≤ℤ◌, true, false, List, [], length, get_or, slice_get, nat_eq}
use Rattle.std.specs.List.{list_any}
use Rattle.std.proofs.Common.{inl, inr, sym, ap, subst, ◌∙◌, arith, take, drop}
use Rattle.std.proofs.lemmas.Bool.{true≢false}
use Rattle.std.proofs.lemmas.Bool.Decides.{nat_tests}
use Rattle.std.proofs.lemmas.List.{take_all, take-append-drop}
use Rattle.std.proofs.lemmas.List.Folds.{list_any-append}
use Rattle.sched_base.specs.declared.ids.Itv.{Itv}
use Rattle.sched_model.specs.Data.{Data, has, same}
use Rattle.region.specs.Cells.{Region, is_there}
use Rattle.region.specs.Looks.{IsRegionOf}
use Rattle.region.specs.laws.OneSequence.{has_cases}
use Rattle.findings.specs.laws.Members.{any_more}
use Rattle.refute_basic.specs.Cycle.{itv, edge_of}
use Rattle.prop_temporal.specs.code.Members.{members_at}
use Rattle.prop_temporal.specs.code.Shown.{member_name, IsOfOrder, IsOfPairs, IsOfPairsFrom}
use Rattle.prop_temporal.specs.code.Heights.{Falls, FallsAlong}
use Rattle.prop_temporal.specs.laws.Named.{ordered, same_member}

one_more : (k : ℕ) → k + 1 ≡ suc k
one_more k = omega arith

same_number : (i j : ℕ) → nat_eq i j ≡ true → i ≡ j
same_number i j h = grind (arith, nat_tests)

-- one of the first is the last of them or an earlier one, and one of all is so or a later one
newest_or_earlier : (n : ℕ) (xs : List Itv) (k : ℕ) (x : Itv) → k < length xs → x ≡ get_or xs k x → has (take (k + 1) xs) (itv n) ≡ true → (n ≡ x.0) ⊎ (has (take k xs) (itv n) ≡ true)
newest_or_earlier n xs k x within at h = elim (any_more (same (itv n)) xs k x within at (subst (λ j. list_any (same (itv n)) (take j xs) ≡ true) (one_more k) h)) [
  | inl here ↦ inl (same_number n x.0 here)
  | inr earlier ↦ inr earlier
]

newest_or_other : (n : ℕ) (xs : List Itv) (k : ℕ) (x : Itv) → k < length xs → x ≡ get_or xs k x → has xs (itv n) ≡ true → (n ≡ x.0) ⊎ ((has (take k xs) (itv n) ≡ true) ⊎ (has (drop (k + 1) xs) (itv n) ≡ true))
newest_or_other n xs k x within at h = elim (has_cases (has (take (k + 1) xs) (itv n)) (has (drop (k + 1) xs) (itv n)) (sym (list_any-append (same (itv n)) (take (k + 1) xs) (drop (k + 1) xs)) ∙ ap (list_any (same (itv n))) (take-append-drop (k + 1) xs) ∙ h)) [
  | inl first ↦ elim (newest_or_earlier n xs k x within at first) [ inl here ↦ inl here | inr earlier ↦ inr (inl earlier) ]
  | inr later ↦ inr (inr later)
]

-- those of one member with some
pub falls_pairs_none : (m : Data) (r : Region) (h : ℕ → ℤ) (u x : ℕ) → FallsAlong m r h (IsOfPairs u x [])
falls_pairs_none m r h u x i of = elim of.ends [
  | inl w ↦ absurd (true≢false (sym w.1))
  | inr w ↦ absurd (true≢false (sym w.1))
]

pub falls_pairs_more : (m : Data) (r : Region) (h : ℕ → ℤ) (u x : ℕ) (ys : List Itv) (k : ℕ) (y : Itv) → k < length ys → y ≡ get_or ys k y → FallsAlong m r h (IsOfPairs u x (take k ys))
    → Falls m r h (member_name false u x y.0) → Falls m r h (member_name false u y.0 x) → FallsAlong m r h (IsOfPairs u x (take (k + 1) ys))
falls_pairs_more m r h u x ys k y within at before forth back i of e shown = elim of.ends [
  | inl w ↦ elim (newest_or_earlier i.z ys k y within at w.1) [
    | inl here ↦ forth e (ap (edge_of m r) (sym (same_member false i u x y.0 of.kind of.of w.0 here)) ∙ shown)
    | inr earlier ↦ before i (record { kind = of.kind; of = of.of; ends = inl (w.0, earlier) }) e shown
  ]
  | inr w ↦ elim (newest_or_earlier i.y ys k y within at w.1) [
    | inl here ↦ back e (ap (edge_of m r) (sym (same_member false i u y.0 x of.kind of.of here w.0)) ∙ shown)
    | inr earlier ↦ before i (record { kind = of.kind; of = of.of; ends = inr (w.0, earlier) }) e shown
  ]
]

pub falls_pairs_all : (m : Data) (r : Region) (h : ℕ → ℤ) (u x : ℕ) (ys : List Itv) (k : ℕ) → length ys ≤ k → FallsAlong m r h (IsOfPairs u x (take k ys)) → FallsAlong m r h (IsOfPairs u x ys)
falls_pairs_all m r h u x ys k past all = subst (λ zs. FallsAlong m r h (IsOfPairs u x zs)) (take_all k ys past) all

-- those of each of the first members with all: with the earlier ones they are tested already, and no member stands before itself
pub falls_from_none : (m : Data) (r : Region) (h : ℕ → ℤ) (u : ℕ) (xs : List Itv) → FallsAlong m r h (IsOfPairsFrom u [] xs)
falls_from_none m r h u xs i of = elim of.either [
  | inl is ↦ absurd (true≢false (sym is))
  | inr is ↦ absurd (true≢false (sym is))
]

pub falls_from_more : (m : Data) (r : Region) (h : ℕ → ℤ) (u : ℕ) (xs : List Itv) (k : ℕ) (x : Itv) → IsRegionOf m r → k < length xs → x ≡ get_or xs k x → FallsAlong m r h (IsOfPairsFrom u (take k xs) xs)
    → FallsAlong m r h (IsOfPairs u x.0 (drop (k + 1) xs)) → FallsAlong m r h (IsOfPairsFrom u (take (k + 1) xs) xs)
falls_from_more m r h u xs k x of within at before last i mine e shown = elim mine.either [
  | inl first ↦ elim (newest_or_earlier i.y xs k x within at first) [
    | inl here ↦ elim (newest_or_other i.z xs k x within at mine.second) [
      | inl itself ↦ absurd ((ordered m r i e of mine.kind shown).apart (here ∙ sym itself))
      | inr (inl earlier) ↦ so_far (inr earlier)
      | inr (inr later) ↦ last i (record { kind = mine.kind; of = mine.of; ends = inl (here, later) }) e shown
    ]
    | inr earlier ↦ so_far (inl earlier)
  ]
  | inr second ↦ elim (newest_or_earlier i.z xs k x within at second) [
    | inl here ↦ elim (newest_or_other i.y xs k x within at mine.first) [
      | inl itself ↦ absurd ((ordered m r i e of mine.kind shown).apart (itself ∙ sym here))
      | inr (inl earlier) ↦ so_far (inl earlier)
      | inr (inr later) ↦ last i (record { kind = mine.kind; of = mine.of; ends = inr (here, later) }) e shown
    ]
    | inr earlier ↦ so_far (inr earlier)
  ]
]
  where
    so_far : ((has (take k xs) (itv i.y) ≡ true) ⊎ (has (take k xs) (itv i.z) ≡ true)) → (e.weight +ℤ h e.head) ≤ℤ h e.tail
    so_far either = before i (record { kind = mine.kind; of = mine.of; first = mine.first; second = mine.second; either = either }) e shown

-- of a member that isn't present there is none
pub falls_from_past : (m : Data) (r : Region) (h : ℕ → ℤ) (u : ℕ) (xs : List Itv) (k : ℕ) (x : Itv) → IsRegionOf m r → k < length xs → x ≡ get_or xs k x → is_there r x ≡ false → FallsAlong m r h (IsOfPairsFrom u (take k xs) xs)
    → FallsAlong m r h (IsOfPairsFrom u (take (k + 1) xs) xs)
falls_from_past m r h u xs k x of within at away before = falls_from_more m r h u xs k x of within at before (λ i mine e shown. elim mine.ends [
  | inl w ↦ absurd (true≢false (sym (ordered m r i e of mine.kind shown).present ∙ ap (λ n. is_there r (itv n)) w.0 ∙ away))
  | inr w ↦ absurd (true≢false (sym (ordered m r i e of mine.kind shown).also ∙ ap (λ n. is_there r (itv n)) w.0 ∙ away))
])

pub falls_from_all : (m : Data) (r : Region) (h : ℕ → ℤ) (u : ℕ) (xs : List Itv) (k : ℕ) → IsRegionOf m r → xs ≡ members_at m (slice_get m.constraints u) → length xs ≤ k → FallsAlong m r h (IsOfPairsFrom u (take k xs) xs) → FallsAlong m r h (IsOfOrder u)
falls_from_all m r h u xs k of are past before i mine e shown =
    let both = ordered m r i e of mine.0 shown in
    let all = are ∙ ap (λ n. members_at m (slice_get m.constraints n)) (sym mine.1) in
    let first : has xs (itv i.y) ≡ true = ap (λ zs. has zs (itv i.y)) all ∙ both.first in
    let second : has xs (itv i.z) ≡ true = ap (λ zs. has zs (itv i.z)) all ∙ both.second in
    before i (record { kind = mine.0; of = mine.1; first = first; second = second; either = inl (subst (λ zs. has zs (itv i.y) ≡ true) (sym (take_all k xs past)) first) }) e shown
