-- What CYCLE refutes depends on which intervals are present and on the orders of sequences without overlap, and on no bound.
use Rattle.std.specs.Prelude.{◌≡◌, ℕ, zero, suc, ◌<◌, ◌≤◌, ℤ, pos, ◌+ℤ◌, Bool, true, false, ◌&&◌, List, [], ◌∷◌, length, Option, Some, None, option_and_then, slice_get, nat_eq, nat_lt, nat_le}
use Rattle.std.specs.Ordering.{int_eq}
use Rattle.std.specs.List.{list_any}
use Rattle.std.proofs.Common.{refl, sym, ap, ◌∙◌, arith, get_or}
use Rattle.std.proofs.lemmas.Int.{ints}
use Rattle.std.proofs.lemmas.Bool.{or_left, or_right}
use Rattle.std.proofs.lemmas.Bool.Decides.{nat_tests}
use Rattle.std.proofs.lemmas.List.{get_or_past}
use Rattle.sched_base.specs.declared.ids.Itv.{Itv}
use Rattle.sched_base.specs.declared.ids.Seq.{Seq}
use Rattle.sched_model.specs.declared.types.IntervalDef.{IntervalDef}
use Rattle.sched_model.specs.declared.types.Constraint.{Constraint}
use Rattle.sched_model.specs.declared.types.Constraint.TheVariants.{Temporal, NoOverlap}
use Rattle.sched_model.specs.Words.{passes}
use Rattle.sched_model.specs.Data.{Data}
use Rattle.region.specs.declared.types.Bounds.{Bounds}
use Rattle.region.specs.Cells.{Region, bounds_of, unknown}
use Rattle.region.specs.Looks.{Seen, IsRegionOf, is_narrowed}
use Rattle.region.specs.laws.Lists.{both_true, placewise-length, placewise-at}
use Rattle.refute_basic.specs.declared.edge.Arc.{Arc as Edge}
use Rattle.refute_basic.specs.declared.arc_name.ArcName.{ArcName}
use Rattle.refute_basic.specs.Standing.{is_no_overlap, is_disjunctive}
use Rattle.refute_basic.specs.Cycle.{itv, forth, back, along, edge_of, goes_on, closes, cycle_row}
use Rattle.refute_basic.specs.laws.Alike.{SameOrder, stand_alike}

-- the same presences and sizes
pub record AreAsPresent (r q : Region) : Type 0 where
  pub size : length r.bounds ≡ length q.bounds
  pub presence : (x : Itv) → (bounds_of r x).presence ≡ (bounds_of q x).presence
  pub least : (x : Itv) → (bounds_of r x).pmin ≡ (bounds_of q x).pmin
  pub greatest : (x : Itv) → (bounds_of r x).pmax ≡ (bounds_of q x).pmax

forth_same : (r q : Region) → AreAsPresent r q → (c : Constraint) → forth r c ≡ forth q c
forth_same r q same (Temporal from to equal a b z) = rw (same.presence a, same.presence b) refl
forth_same r q same other = refl

back_same : (r q : Region) → AreAsPresent r q → (c : Constraint) → back r c ≡ back q c
back_same r q same (Temporal from to equal a b z) = rw (same.presence a, same.presence b) refl
back_same r q same other = refl

at_same : (f g : Constraint → Option Edge) → ((c : Constraint) → f c ≡ g c) → (o : Option Constraint) → option_and_then f o ≡ option_and_then g o
at_same f g same None = refl
at_same f g same (Some c) = same c

-- the same orders of the sequences without overlap
abbrev pub SameOrders : Data → Region → Region → Type 0
SameOrders m r q = (p : Seq) → is_disjunctive m p ≡ true → (x y : Itv) → SameOrder r q p x y

any_at : (t : Constraint → Bool) (cs : List Constraint) (k : ℕ) (c : Constraint) → slice_get cs k ≡ Some c → t c ≡ true → list_any t cs ≡ true
any_at t [] k c at h = cc
any_at t (d ∷ cs) zero c at h = let same : d ≡ c = cc at in or_left (t d) (list_any t cs) (ap t same ∙ h)
any_at t (d ∷ cs) (suc k) c at h = or_right (t d) (list_any t cs) (any_at t cs k c at h)

pub disjunctive_at : (m : Data) (k : ℕ) (c : Constraint) (p : Seq) → slice_get m.constraints k ≡ Some c → is_no_overlap p c ≡ true → is_disjunctive m p ≡ true
disjunctive_at m k c p at h = any_at (is_no_overlap p) m.constraints k c at h

along_same : (m : Data) (r q : Region) → AreAsPresent r q → SameOrders m r q → (x y : Itv) (o : Option Constraint) → ((c : Constraint) (p : Seq) → o ≡ Some c → is_no_overlap p c ≡ true → is_disjunctive m p ≡ true)
    → option_and_then (along m r x y) o ≡ option_and_then (along m q x y) o
along_same m r q same orders x y None known = refl
along_same m r q same orders x y (Some (NoOverlap p matrix direct)) known =
    rw (stand_alike r q p x y (record { first = same.presence x; second = same.presence y; order = orders p (known (NoOverlap p matrix direct) p refl (itself p.0)) x y })) refl
  where
    itself : (n : ℕ) → nat_eq n n ≡ true
    itself n = grind (arith, nat_tests)
along_same m r q same orders x y (Some other) known = refl

edge_same : (m : Data) (r q : Region) → AreAsPresent r q → SameOrders m r q → (i : ArcName) → edge_of m r i ≡ edge_of m q i
edge_same m r q same orders i =
    rw (
      along_same m r q same orders (itv i.y) (itv i.z) (slice_get m.constraints i.x) (disjunctive_at m i.x),
      at_same (forth r) (forth q) (forth_same r q same) (slice_get m.constraints i.x),
      at_same (back r) (back q) (back_same r q same) (slice_get m.constraints i.x),
      same.presence (itv i.x),
      same.least (itv i.x),
      same.greatest (itv i.x),
    ) refl

passes_same : {X : Type 0} (f g : X → Bool) → ((x : X) → f x ≡ g x) → (o p : Option X) → o ≡ p → passes f o ≡ passes g p
passes_same f g same None p e = ap (passes g) e
passes_same f g same (Some x) p e = same x ∙ ap (passes g) e

goes_same : (m : Data) (r q : Region) → AreAsPresent r q → SameOrders m r q → (begin at : ℕ) (sum : ℤ) (is : List ArcName) → goes_on m r begin at sum is ≡ goes_on m q begin at sum is
goes_same m r q same orders begin at sum [] = refl
goes_same m r q same orders begin at sum (i ∷ is) = passes_same (λ e. nat_eq at e.tail && goes_on m r begin e.head (sum +ℤ e.weight) is) (λ e. nat_eq at e.tail && goes_on m q begin e.head (sum +ℤ e.weight) is)
    (λ e. ap (λ b. nat_eq at e.tail && b) (goes_same m r q same orders begin e.head (sum +ℤ e.weight) is)) (edge_of m r i) (edge_of m q i) (edge_same m r q same orders i)

pub closes_same : (m : Data) (r q : Region) → AreAsPresent r q → SameOrders m r q → (is : List ArcName) → closes m r is ≡ closes m q is
closes_same m r q same orders [] = refl
closes_same m r q same orders (i ∷ is) = passes_same (λ e. goes_on m r e.tail e.head e.weight is) (λ e. goes_on m q e.tail e.head e.weight is)
    (λ e. goes_same m r q same orders e.tail e.head e.weight is) (edge_of m r i) (edge_of m q i) (edge_same m r q same orders i)

-- regions of one model with the same presence cells
pub as_present_from_cells : (m : Data) (r q : Region) → IsRegionOf m r → IsRegionOf m q → ((x : Itv) → (bounds_of r x).presence ≡ (bounds_of q x).presence) → AreAsPresent r q
as_present_from_cells m r q of also same = record {
  size = size;
  presence = same;
  least = λ x. (sizes x (nat_lt x.0 (length m.intervals)) refl).0;
  greatest = λ x. (sizes x (nat_lt x.0 (length m.intervals)) refl).1;
}
  where
    size : length r.bounds ≡ length q.bounds
    size = sym (placewise-length is_narrowed m.intervals r.bounds of.bounds) ∙ placewise-length is_narrowed m.intervals q.bounds also.bounds

    first : IntervalDef
    first = record { name = []; optional = false; start_lo = pos 0; start_hi = pos 0; end_lo = pos 0; end_hi = pos 0; size_lo = pos 0; size_hi = pos 0 }

    sizes_of : (d : IntervalDef) (c : Bounds) → is_narrowed d c ≡ true → (int_eq d.size_lo c.pmin ≡ true) × (int_eq d.size_hi c.pmax ≡ true)
    sizes_of d c h =
        let two = both_true _ (int_eq d.size_hi c.pmax) h in
        ((both_true _ (int_eq d.size_lo c.pmin) two.0).1, two.1)

    same_int : (a b c : ℤ) → int_eq a b ≡ true → int_eq a c ≡ true → b ≡ c
    same_int a b c h k = grind (arith, ints)

    sizes : (x : Itv) (b : Bool) → nat_lt x.0 (length m.intervals) ≡ b → ((bounds_of r x).pmin ≡ (bounds_of q x).pmin) × ((bounds_of r x).pmax ≡ (bounds_of q x).pmax)
    sizes x true is =
        let within : x.0 < length m.intervals = grind (arith, nat_tests) in
        let one = sizes_of (get_or m.intervals x.0 first) (bounds_of r x) (placewise-at is_narrowed m.intervals r.bounds x.0 first unknown of.bounds within) in
        let two = sizes_of (get_or m.intervals x.0 first) (bounds_of q x) (placewise-at is_narrowed m.intervals q.bounds x.0 first unknown also.bounds within) in
        (same_int _ _ _ one.0 two.0, same_int _ _ _ one.1 two.1)
    sizes x false is =
        let past : length m.intervals ≤ x.0 = grind (arith, nat_tests) in
        let here : bounds_of r x ≡ unknown = get_or_past r.bounds x.0 unknown (omega (arith, past, placewise-length is_narrowed m.intervals r.bounds of.bounds)) in
        let there : bounds_of q x ≡ unknown = get_or_past q.bounds x.0 unknown (omega (arith, past, placewise-length is_narrowed m.intervals q.bounds also.bounds)) in
        (ap (λ (c : Bounds). c.pmin) (here ∙ sym there), ap (λ (c : Bounds). c.pmax) (here ∙ sym there))

pub cycle_alike : (m : Data) (l k : Seen) (arcs : List ArcName) → IsRegionOf m l.region → IsRegionOf m k.region → ((x : Itv) → (bounds_of l.region x).presence ≡ (bounds_of k.region x).presence) → SameOrders m l.region k.region
    → cycle_row m l arcs ≡ cycle_row m k arcs
cycle_alike m l k arcs of also same orders = ap (λ b. nat_le (length arcs) 4000 && b) (closes_same m l.region k.region (as_present_from_cells m l.region k.region of also same) orders arcs)
