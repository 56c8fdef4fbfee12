-- The arcs of one interval are collected, and heights are tested along them.
use Rattle.std.specs.Prelude.{◌≡◌, ℕ, suc, ◌+◌, ◌<◌, ◌≤◌, ℤ, ◌+ℤ◌, ◌≤ℤ◌, true, false, List, [], length, get_or, Some, nat_eq, int_lt}
use Rattle.std.specs.List.{list_any}
use Rattle.std.proofs.Common.{inl, inr, sym, subst, arith, take}
use Rattle.std.proofs.lemmas.Bool.{true≢false}
use Rattle.std.proofs.lemmas.List.{take_all, get_or_default}
use Rattle.std.proofs.lemmas.Bool.Decides.{nat_tests}
use Rattle.std.proofs.lemmas.Int.{ints}
use Rattle.sched_model.specs.Data.{Data}
use Rattle.region.specs.Cells.{Region}
use Rattle.cycles.specs.code.Walks.{arc_at}
use Rattle.refute_basic.specs.declared.edge.Arc.{Arc as Edge}
use Rattle.refute_basic.specs.declared.arc_name.ArcName.{ArcName}
use Rattle.refute_basic.specs.Cycle.{edge_of}
use Rattle.findings.specs.laws.Members.{any_more}
use Rattle.prop_temporal.specs.code.Shown.{Shown, IsAmong, TriesAll, OfOne, IsOfMember, IsOfInterval}
use Rattle.prop_temporal.specs.code.Heights.{height_with, AllKeep, IsOwn, OwnKeep}
use Rattle.base_laws.specs.laws.Numbers.{below_or_last}

-- the arcs of an interval and of these constraints are among those that are collected
abbrev pub HasOf : Data → Region → ℕ → List ℕ → Shown → Type 0
HasOf m r x cs s = (i : ArcName) (e : Edge) → OfOne x i → list_any (λ k. nat_eq i.x k) cs ≡ true → edge_of m r i ≡ Some e → IsAmong s.arcs e

abbrev pub HasOwn : Data → Region → ℕ → List ℕ → Shown → Type 0
HasOwn m r x cs s = (i : ArcName) (e : Edge) → IsOwn x cs i → edge_of m r i ≡ Some e → IsAmong s.arcs e

pub none_of : (m : Data) (r : Region) (x : ℕ) (s : Shown) → HasOf m r x [] s
none_of m r x s i e kind among = absurd (true≢false (sym among))

pub one_of : (m : Data) (r : Region) (x : ℕ) (cs : List ℕ) (k : ℕ) (s w : Shown) → k < length cs → TriesAll m r (IsOfMember (get_or cs k 0) x) s w → HasOf m r x (take k cs) s → HasOf m r x (take (k + 1) cs) w
one_of m r x cs k s w within tries before i e kind among h = elim (any_more (λ j. nat_eq i.x j) cs k (get_or cs k 0) within (get_or_default cs k 0 (get_or cs k 0) within) (subst (λ n. list_any (λ j. nat_eq i.x j) (take n cs) ≡ true) (one_more k) among)) [
  | inl here ↦ tries.has i e (kind, same_number i.x (get_or cs k 0) here) h
  | inr earlier ↦ tries.grows e (before i e kind earlier h)
]
  where
    same_number : (i j : ℕ) → nat_eq i j ≡ true → i ≡ j
    same_number i j h = grind (arith, nat_tests)

    one_more : (k : ℕ) → k + 1 ≡ suc k
    one_more k = omega arith

pub own_all : (m : Data) (r : Region) (x : ℕ) (cs : List ℕ) (s w : Shown) → TriesAll m r (IsOfInterval x) s w → HasOf m r x cs s → HasOwn m r x cs w
own_all m r x cs s w tries before i e own h = elim own [
  | inl of ↦ tries.grows e (before i e of.0 of.1 h)
  | inr of ↦ tries.has i e of h
]

pub own_keep : (m : Data) (r : Region) (x : ℕ) (cs : List ℕ) (hs : List ℤ) (s : Shown) (start end : ℤ) → HasOwn m r x cs s → AllKeep (height_with hs x start end) s.arcs → OwnKeep m r x cs hs
own_keep m r x cs hs s start end has keep = record {
  start = start;
  end = end;
  keep = λ i e own shown.
      let among = has i e own shown in
      subst (λ (d : Edge). (d.weight +ℤ height_with hs x start end d.head) ≤ℤ height_with hs x start end d.tail) among.is (keep among.at among.within);
}

pub of_all : (m : Data) (r : Region) (x : ℕ) (cs : List ℕ) (k : ℕ) (s : Shown) → length cs ≤ k → HasOf m r x (take k cs) s → HasOf m r x cs s
of_all m r x cs k s past has = subst (λ (xs : List ℕ). HasOf m r x xs s) (take_all k cs past) has

-- one arc more along which the height falls
pub keep_next : (h : ℕ → ℤ) (arcs : List Edge) (k : ℕ) → ((j : ℕ) → j < k → ((arc_at arcs j).weight +ℤ h (arc_at arcs j).head) ≤ℤ h (arc_at arcs j).tail)
    → int_lt (h (arc_at arcs k).tail) ((arc_at arcs k).weight +ℤ h (arc_at arcs k).head) ≡ false → (j : ℕ) → j < k + 1 → ((arc_at arcs j).weight +ℤ h (arc_at arcs j).head) ≤ℤ h (arc_at arcs j).tail
keep_next h arcs k before on_time j less = elim (below_or_last j k less) [
  | inl earlier ↦ before j earlier
  | inr last ↦ subst (λ (i : ℕ). ((arc_at arcs i).weight +ℤ h (arc_at arcs i).head) ≤ℤ h (arc_at arcs i).tail) (sym last) (kept (h (arc_at arcs k).tail) ((arc_at arcs k).weight +ℤ h (arc_at arcs k).head) on_time)
]
  where
    kept : (t w : ℤ) → int_lt t w ≡ false → w ≤ℤ t
    kept t w h = grind (arith, ints)
