-- Of two members nothing is found, whichever stands first.
use Rattle.std.specs.Prelude.{◌≡◌, ℕ, ◌+◌, ◌<◌, ◌≤◌, ℤ, Bool, true, false, List, length, Option, nat_lt}
use Rattle.std.proofs.Common.{◌≢◌, refl, sym, ap, subst, inl, inr, arith}
use Rattle.std.proofs.lemmas.Bool.{cases_eq}
use Rattle.std.proofs.lemmas.Bool.Decides.{nat_tests}
use Rattle.sched_base.specs.declared.ids.Itv.{Itv}
use Rattle.sched_base.specs.declared.ids.Seq.{Seq}
use Rattle.sched_model.specs.Data.{Data, members_of}
use Rattle.region.specs.declared.types.OrderCell.{OrderCell}
use Rattle.region.specs.declared.types.OrderCell.TheVariants.{Unknown, Forward, Backward}
use Rattle.region.specs.Orders.{order_in, is_before, known_order}
use Rattle.region.specs.Cells.{Region, bounds_of, cells_of}
use Rattle.region.specs.Looks.{IsRegionOf}
use Rattle.refute_seq.specs.laws.Ordered.{one_way}
use Rattle.prop_unary.specs.declared.disjunctive.Disjunctive.{Disjunctive}
use Rattle.prop_unary.specs.code.Tasks.{quiet}
use Rattle.prop_unary.specs.code.Silence.{IsDisjunctive, AreSilentOrders, reach, AreSilent, AreSilentWhere, AreSilentBoth}
use Rattle.prop_unary.specs.code.Circles.{EachOf, EachBetween}
use Rattle.prop_unary.specs.code.Rows.{member_at}
use Rattle.prop_unary.specs.laws.Silence.{backward_pair, silent_itself}
use Rattle.prop_unary.specs.laws.Rows.{each_placed}
use Rattle.prop_unary.specs.laws.Quieting.{pairs_quiet}
use Rattle.prop_unary.proofs.Noted.{silent_by_test}

-- by their numbers alone
pub silent_before : (m : Data) (r : Region) (best : Option ℤ) (d : Disjunctive) (a b : Itv) → IsDisjunctive m d → AreSilentOrders (bounds_of r a) (bounds_of r b) (reach m d.p d.matrix a b) → AreSilent m r best d a b
silent_before m r best d a b is silent = by_order (order_in (cells_of r d.p) a b) refl
  where
    by_order : (o : OrderCell) → order_in (cells_of r d.p) a b ≡ o → AreSilent m r best d a b
    by_order Forward told = silent_by_test m r best d Forward a b is silent.told told
    by_order Unknown told = silent_by_test m r best d Unknown a b is silent.free told
    by_order Backward told = backward_pair m r best d a b is told

-- what is told of two who are named the other way round
forward_turned : (r : Region) (p : Seq) (x y : Itv) → order_in (cells_of r p) x y ≡ Forward → order_in (cells_of r p) y x ≡ Backward
forward_turned r p x y h = turned (is_before (cells_of r p) x y) (is_before (cells_of r p) y x) h (λ forth back. one_way (cells_of r p) x y forth back)
  where
    turned : (b c : Bool) → known_order b c ≡ Forward → (b ≡ true → c ≡ true → ⊥) → known_order c b ≡ Backward
    turned true true h off = absurd (off refl refl)
    turned true false h off = refl
    turned false true h off = cc
    turned false false h off = cc

pub open_turned : (r : Region) (p : Seq) (x y : Itv) → order_in (cells_of r p) x y ≡ Unknown → order_in (cells_of r p) y x ≡ Unknown
open_turned r p x y h = turned (is_before (cells_of r p) x y) (is_before (cells_of r p) y x) h
  where
    turned : (b c : Bool) → known_order b c ≡ Unknown → known_order c b ≡ Unknown
    turned true true h = cc
    turned true false h = cc
    turned false true h = cc
    turned false false h = refl

-- by what is told of them
pub both_forward : (m : Data) (r : Region) (best : Option ℤ) (d : Disjunctive) (a b : Itv) → IsDisjunctive m d → order_in (cells_of r d.p) a b ≡ Forward → AreSilent m r best d a b → AreSilentBoth m r best d a b
both_forward m r best d a b is told silent = (silent, backward_pair m r best d b a is (forward_turned r d.p a b told))

pub both_backward : (m : Data) (r : Region) (best : Option ℤ) (d : Disjunctive) (a b : Itv) → IsDisjunctive m d → order_in (cells_of r d.p) a b ≡ Backward → AreSilent m r best d b a → AreSilentBoth m r best d a b
both_backward m r best d a b is told silent = (backward_pair m r best d a b is told, silent)

-- each two, where it is so of each and those before it
is_below : (i n : ℕ) → nat_lt i n ≡ true → i < n
is_below i n h = grind (arith, nat_tests)

is_past : (i n : ℕ) → nat_lt i n ≡ false → n ≤ i
is_past i n h = grind (arith, nat_tests)

pub each_two : (m : Data) (r : Region) (best : Option ℤ) (d : Disjunctive) (ms : List Itv) (n : ℕ) → IsDisjunctive m d → length ms ≤ n → ((i : ℕ) → i < n → EachBetween (AreSilentBoth m r best d (member_at ms i)) ms 0 i) → EachOf (λ a. EachOf (AreSilent m r best d a) ms) ms
each_two m r best d ms n is all each = each_placed (λ a. EachOf (AreSilent m r best d a) ms) ms (λ i one. each_placed (AreSilent m r best d (member_at ms i)) ms (λ k other. by_place i k (omega (arith, one, all)) (omega (arith, other, all))))
  where
    by_place : (i k : ℕ) → i < n → k < n → AreSilent m r best d (member_at ms i) (member_at ms k)
    by_place i k one other = elim (cases_eq i k) [
      | inl e ↦ silent_itself m r best d (member_at ms i) (member_at ms k) is (ap (member_at ms) e)
      | inr apart ↦ decided apart (nat_lt k i) refl
    ]
      where
        decided : i ≢ k → (t : Bool) → nat_lt k i ≡ t → AreSilent m r best d (member_at ms i) (member_at ms k)
        decided apart true e = (each i one k (omega arith) (is_below k i e)).0
        decided apart false e = let past = is_past k i e in (each k other i (omega arith) (omega (arith, apart, past))).1

pub rows_more : (P : ℕ → Type 0) (n : ℕ) → ((i : ℕ) → i < n → P i) → P n → (i : ℕ) → i < n + 1 → P i
rows_more P n before here i below = elim (cases_eq i n) [
  | inl e ↦ subst P (sym e) here
  | inr other ↦ (let apart : i ≢ n = other in before i (omega (arith, apart, below)))
]

pub quiet_all : (m : Data) (r : Region) (best : Option ℤ) (d : Disjunctive) (ms : List Itv) → IsRegionOf m r → IsDisjunctive m d → ms ≡ members_of m d.p → EachOf (λ a. EachOf (AreSilent m r best d a) ms) ms → quiet m d.c r best
quiet_all m r best d ms of is listed each = pairs_quiet m r best d of is (subst (λ xs. EachOf (λ a. EachOf (AreSilent m r best d a) xs) xs) listed each)
