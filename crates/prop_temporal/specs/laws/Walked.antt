-- The names of arcs that lead on and close with a positive sum are a walk that refutes.
use Rattle.std.specs.Prelude.{◌≡◌, ℕ, ℤ, pos, ◌+ℤ◌, true, List, [], ◌∷◌, Some, nat_eq, int_lt}
use Rattle.std.proofs.Common.{subst, arith}
use Rattle.std.proofs.lemmas.Int.{ints}
use Rattle.sched_model.specs.Data.{Data}
use Rattle.region.specs.Cells.{Region}
use Rattle.region.specs.laws.Lists.{both_true, true_both}
use Rattle.cycles.specs.code.Walks.{leads, is_closed, total}
use Rattle.refute_basic.specs.declared.edge.Arc.{Arc as Edge}
use Rattle.refute_basic.specs.declared.arc_name.ArcName.{ArcName}
use Rattle.refute_basic.specs.Cycle.{edge_of, goes_on, closes}

-- the names of edges that lead on and close
pub data AreOf (m : Data) (r : Region) : List ArcName → List Edge → Type 0 where
  none : AreOf m r [] []
  one : {i : ArcName} {e : Edge} {is : List ArcName} {es : List Edge} → edge_of m r i ≡ Some e → AreOf m r is es → AreOf m r (i ∷ is) (e ∷ es)

last : (s : ℤ) → int_lt (pos 0) (s +ℤ pos 0) ≡ true → int_lt (pos 0) s ≡ true
last s h = subst (λ (z : ℤ). int_lt (pos 0) z ≡ true) (same s) h
  where
    same : (s : ℤ) → s +ℤ pos 0 ≡ s
    same s = omega (arith, ints)

next : (s w t : ℤ) → int_lt (pos 0) (s +ℤ (w +ℤ t)) ≡ true → int_lt (pos 0) ((s +ℤ w) +ℤ t) ≡ true
next s w t h = subst (λ (z : ℤ). int_lt (pos 0) z ≡ true) (same s w t) h
  where
    same : (s w t : ℤ) → s +ℤ (w +ℤ t) ≡ (s +ℤ w) +ℤ t
    same s w t = omega (arith, ints)

led : (m : Data) (r : Region) (begin at : ℕ) (sum : ℤ) (is : List ArcName) (es : List Edge) → AreOf m r is es → leads at es begin ≡ true → int_lt (pos 0) (sum +ℤ total es) ≡ true → goes_on m r begin at sum is ≡ true
led m r begin at sum is es none lead more = true_both (nat_eq at begin) (int_lt (pos 0) sum) lead (last sum more)
led m r begin at sum js ds (one {i = i} {e = e} {is = is} {es = es} is_of rest) lead more =
    let two = both_true (nat_eq at e.tail) (leads e.head es begin) lead in
    rw is_of (true_both (nat_eq at e.tail) _ two.0 (led m r begin e.head (sum +ℤ e.weight) is es rest two.1 (next sum e.weight (total es) more)))

pub closes_led : (m : Data) (r : Region) (is : List ArcName) (es : List Edge) → AreOf m r is es → is_closed es ≡ true → int_lt (pos 0) (total es) ≡ true → closes m r is ≡ true
closes_led m r is es none closed more = closed
closes_led m r js ds (one {i = i} {e = e} {is = is} {es = es} is_of rest) closed more = rw is_of (led m r e.tail e.head e.weight is es rest closed more)
