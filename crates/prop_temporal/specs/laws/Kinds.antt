-- Of which kinds the names of arcs are, taken one after another.
use Rattle.std.specs.Prelude.{◌≡◌, ◌⊎◌, ℕ, suc, ◌+◌, ◌<◌, Bool, true, false, List, length, get_or, Some, slice_get, nat_eq}
use Rattle.std.specs.List.{list_any}
use Rattle.std.proofs.Common.{inl, inr, sym, ap, subst, ◌∙◌, arith, take}
use Rattle.std.proofs.lemmas.Bool.Decides.{nat_tests}
use Rattle.sched_base.specs.declared.ids.Itv.{Itv}
use Rattle.sched_model.specs.Data.{Data, has, same}
use Rattle.region.specs.Cells.{Region}
use Rattle.region.specs.Looks.{IsRegionOf}
use Rattle.findings.specs.laws.Members.{any_more}
use Rattle.refute_basic.specs.declared.edge.Arc.{Arc as Edge}
use Rattle.refute_basic.specs.declared.arc_name.ArcName.{ArcName}
use Rattle.refute_basic.specs.Cycle.{itv, edge_of}
use Rattle.prop_temporal.specs.code.Members.{members_at}
use Rattle.prop_temporal.specs.code.Shown.{name, member_name, other_of, IsOfInterval, IsOfPrecedence, IsOfOrder, IsOfOrderFrom, IsOfSide, IsOfSideOf}
use Rattle.prop_temporal.specs.laws.Named.{named, no_constraint, ordered, same_name, same_member}

not_both : (i : ArcName) (k j : ℕ) → i.kind ≡ k → i.kind ≡ j → (k ≡ j → ⊥) → ⊥
not_both i k j a b other = other (sym a ∙ b)

one_more : (k : ℕ) → k + 1 ≡ suc k
one_more k = omega arith

same_number : (i j : ℕ) → nat_eq i j ≡ true → i ≡ j
same_number i j h = grind (arith, nat_tests)

-- the two names of a precedence, and those of an interval
pub precedence_names : (m : Data) (r : Region) (i : ArcName) (e : Edge) (u : ℕ) → IsOfPrecedence u i → edge_of m r i ≡ Some e → (i ≡ name 0 u 0) ⊎ (i ≡ name 0 u 1)
precedence_names m r i e u of h = elim ((named m r i e h).of) [
  | inl n ↦ elim n.way [
    | inl y ↦ inl (same_name i 0 u 0 of.0 of.1 y n.last)
    | inr y ↦ inr (same_name i 0 u 1 of.0 of.1 y n.last)
  ]
  | inr (inl n) ↦ absurd (no_constraint i n.kind (inl of.0))
  | inr (inr n) ↦ absurd (not_both i 0 3 of.0 n.kind (λ is. absurd (omega (arith, is))))
]

pub interval_names : (m : Data) (r : Region) (i : ArcName) (e : Edge) (x : ℕ) → IsOfInterval x i → edge_of m r i ≡ Some e → (i ≡ name 1 x 0) ⊎ (i ≡ name 2 x 0)
interval_names m r i e x of h = elim ((named m r i e h).of) [
  | inl n ↦ absurd (of.0 (inl n.kind))
  | inr (inl n) ↦ elim n.kind [
    | inl k ↦ inl (same_name i 1 x 0 k of.1 n.second n.last)
    | inr k ↦ inr (same_name i 2 x 0 k of.1 n.second n.last)
  ]
  | inr (inr n) ↦ absurd (of.0 (inr n.kind))
]

-- those of one member with one more, on one side of them
pub side_next : (behind : Bool) (u x : ℕ) (ys : List Itv) (k : ℕ) (y : Itv) (i : ArcName) → k < length ys → y ≡ get_or ys k y → IsOfSideOf behind u x (take (k + 1) ys) i → (i ≡ member_name behind u x y.0) ⊎ IsOfSideOf behind u x (take k ys) i
side_next behind u x ys k y i within at of = elim (any_more (same (itv (other_of behind i))) ys k y within at (subst (λ n. list_any (same (itv (other_of behind i))) (take n ys) ≡ true) (one_more k) of.3)) [
  | inl here ↦ inl (same_member behind i u x y.0 of.0 of.1 of.2 (same_number (other_of behind i) y.0 here))
  | inr earlier ↦ inr (of.0, of.1, of.2, earlier)
]

pub side_among : (m : Data) (r : Region) (behind : Bool) (u x : ℕ) (ys : List Itv) (i : ArcName) (e : Edge) → IsRegionOf m r → ys ≡ members_at m (slice_get m.constraints u) → IsOfSide behind u x i → edge_of m r i ≡ Some e → IsOfSideOf behind u x ys i
side_among m r behind u x ys i e of are mine h = (mine.0, mine.1, mine.2, among behind)
  where
    among : (b : Bool) → has ys (itv (other_of b i)) ≡ true
    among true = ap (λ zs. has zs (itv i.y)) (are ∙ ap (λ n. members_at m (slice_get m.constraints n)) (sym mine.1)) ∙ (ordered m r i e of mine.0 h).first
    among false = ap (λ zs. has zs (itv i.z)) (are ∙ ap (λ n. members_at m (slice_get m.constraints n)) (sym mine.1)) ∙ (ordered m r i e of mine.0 h).second

-- those of each member, with one more
pub order_next : (u : ℕ) (xs : List Itv) (k : ℕ) (x : Itv) (i : ArcName) → k < length xs → x ≡ get_or xs k x → IsOfOrderFrom u (take (k + 1) xs) i → IsOfSide false u x.0 i ⊎ IsOfOrderFrom u (take k xs) i
order_next u xs k x i within at of = elim (any_more (same (itv i.y)) xs k x within at (subst (λ n. list_any (same (itv i.y)) (take n xs) ≡ true) (one_more k) of.2)) [
  | inl here ↦ inl (of.0, of.1, same_number i.y x.0 here)
  | inr earlier ↦ inr (of.0, of.1, earlier)
]

pub order_among : (m : Data) (r : Region) (u : ℕ) (xs : List Itv) (i : ArcName) (e : Edge) → IsRegionOf m r → xs ≡ members_at m (slice_get m.constraints u) → IsOfOrder u i → edge_of m r i ≡ Some e → IsOfOrderFrom u xs i
order_among m r u xs i e of are mine h = (mine.0, mine.1, ap (λ zs. has zs (itv i.y)) (are ∙ ap (λ n. members_at m (slice_get m.constraints n)) (sym mine.1)) ∙ (ordered m r i e of mine.0 h).first)
