-- On a settled region that no witness refutes, the assignment that is left is a solution, and better than the best value where
-- there are an objective and a best value.
use Rattle.std.specs.Prelude.{◌≡◌, ℕ, ℤ, Bool, true, false, not, ◌&&◌, List, [], ◌∷◌, Option, Some, None, map, slice_get, is_some}
use Rattle.std.specs.List.{list_all}
use Rattle.std.proofs.Common.{refl, sym, ap, ◌∙◌, arith}
use Rattle.std.proofs.lemmas.Int.{ints}
use Rattle.std.proofs.lemmas.Bool.{not-false}
use Rattle.base_laws.specs.laws.Items.{all_listed, all_at}
use Rattle.sched_model.specs.declared.types.Assignment.{Assignment}
use Rattle.sched_model.specs.declared.types.Constraint.{Constraint}
use Rattle.sched_model.specs.declared.types.Constraint.TheVariants.{Temporal, Logic, NoOverlap, First, Last, Before, Prev, CumulIn, AlwaysEqual, AlwaysNoState}
use Rattle.sched_base.specs.declared.ids.Seq.{Seq}
use Rattle.sched_model.specs.declared.types.Objective.{Objective}
use Rattle.sched_model.specs.Words.{◌implies◌, passes, passes_if_any, placewise}
use Rattle.sched_model.specs.Data.{Data}
use Rattle.sched_model.specs.Value.{value_of}
use Rattle.sched_model.specs.Domain.{fits_def, lists_present, is_in_domain}
use Rattle.sched_model.specs.Sentences.{holds}
use Rattle.sched_model.specs.Solution.{is_better, beats}
use Rattle.sched_model.specs.Valid.{IsValid}
use Rattle.region.specs.declared.types.Presence.{Presence}
use Rattle.region.specs.declared.types.Presence.TheVariants as presence
use Rattle.region.specs.declared.types.Bounds.{Bounds}
use Rattle.region.specs.Orders.{allows_order}
use Rattle.region.specs.Cells.{Region, is_fixed, is_ordered, is_settled, settled_slot, settled_slots, fits_bounds, allows}
use Rattle.region.specs.Looks.{Seen, IsRegionOf, seen_at}
use Rattle.region.specs.laws.Lists.{both_true, true_both}
use Rattle.region.specs.laws.Pinned.{IsSettledTo}
use Rattle.refute_basic.specs.declared.witness.BasicWitness.{BasicWitness}
use Rattle.refute_basic.specs.Leaf.{settled_alone, is_no_better, keeps, PassesLeaf}
use Rattle.refute_basic.specs.Basic.{refutes}
use Rattle.refute_basic.specs.Listed.{is_derived}
use Rattle.refute_basic.specs.laws.Fits.{settled_fits}
use Rattle.refute_basic.specs.laws.Exact.{unrefuted_passes}
use Rattle.refute_basic.specs.laws.SameSlots.{value_same, holds_same}
use Rattle.refute_hier.specs.declared.witness.HierWitness.{HierWitness}
use Rattle.refute_hier.specs.Hier.{refutes as hier_refutes}
use Rattle.refute_hier.specs.SeqRel.{related_in}
use Rattle.refute_hier.specs.laws.Settled.{keeps_family, all_unrefuted_hold}
use Rattle.refute_hier.specs.laws.Relations.{unrefuted_related}
use Rattle.refute_seq.specs.declared.witness.SeqWitness.{SeqWitness}
use Rattle.refute_seq.specs.OnSequence.{refutes as seq_refutes}
use Rattle.refute_seq.specs.Listed.{is_derived as is_derived_seq}
use Rattle.refute_seq.specs.code.Order.{settled_orders}
use Rattle.refute_seq.specs.laws.Ordered.{IsSettledLook, settled_ordered, orders_settled}
use Rattle.refute_seq.specs.laws.Whole.{orders_present, orders_allowed, keeps_apart, all_unrefuted_hold as all_kept_apart}
use Rattle.refute_cumul.specs.declared.witness.CumulWitness.{CumulWitness}
use Rattle.refute_cumul.specs.OnCumul.{refutes as cumul_refutes}
use Rattle.refute_cumul.specs.laws.Settled.{unrefuted_bounded}
use Rattle.refute_state.specs.declared.witness.StateWitness.{StateWitness}
use Rattle.refute_state.specs.OnState.{refutes as state_refutes}
use Rattle.refute_state.specs.laws.Whole.{segments_fit, keeps_state, all_unrefuted_hold as all_states_kept}
use Rattle.kernel.specs.declared.types.Witness.TheVariants as witness
use Rattle.propagators.specs.Quiet.{IsQuietRegion}
use Rattle.solver.specs.code.Leaves.{settled_assignment, Solves}

-- a settled region allows the assignment at the settled values
fits_itself : (p : Presence) (a b e f lo hi : ℤ)
    → let c : Bounds = record { presence = p; smin = a; smax = b; emin = e; emax = f; pmin = lo; pmax = hi } in is_fixed c ≡ true → fits_bounds c (settled_slot c) ≡ true
fits_itself presence.Absent a b e f lo hi fixed = refl
fits_itself presence.Maybe a b e f lo hi fixed = cc
fits_itself presence.Present a b e f lo hi fixed = grind (arith, ints)

each_fits : (bs : List Bounds) → list_all is_fixed bs ≡ true → placewise fits_bounds bs (map settled_slot bs) ≡ true
each_fits [] fixed = refl
each_fits (b ∷ bs) fixed =
    let two = both_true (is_fixed b) (list_all is_fixed bs) fixed in
    true_both (fits_bounds b (settled_slot b)) _ (fits_itself b.presence b.smin b.smax b.emin b.emax b.pmin b.pmax two.0) (each_fits bs two.1)

pub settled_allowed : (m : Data) (l : Seen) → IsSettledLook m l → allows l.region (settled_assignment m l.region) ≡ true
settled_allowed m l ok = true_both (placewise fits_bounds l.region.bounds (settled_slots l.region)) (placewise allows_order l.region.orders (settled_orders l.region))
    (each_fits l.region.bounds (both_true (list_all is_fixed l.region.bounds) (list_all (is_ordered l.region) l.region.orders) ok.settled).0)
    (orders_allowed m l ok)

-- where the sizes are right, and no state constraint is refuted, it is in the domain
settled_in_domain : (m : Data) (l : Seen) → IsSettledLook m l → IsSettledTo m l.region (settled_assignment m l.region) → ((w : StateWitness) → state_refutes m l w ≡ false) → is_in_domain m (settled_assignment m l.region) ≡ true
settled_in_domain m l ok to none =
    true_both (placewise fits_def m.intervals (settled_slots l.region) && placewise (lists_present (settled_assignment m l.region)) m.sequences (settled_orders l.region)) _
    (true_both (placewise fits_def m.intervals (settled_slots l.region)) _ to.fits (orders_present m l (settled_assignment m l.region) ok to))
    (segments_fit m l (settled_assignment m l.region) ok.valid to none)

-- better, where there are an objective and a best value
beats_best : (m : Data) (l : Seen) (o : Option Objective) → m.objective ≡ o → (best : Option ℤ) → l.best ≡ best → is_no_better m l ≡ false → passes_if_any (λ p. is_better m best (settled_assignment m l.region)) o ≡ true
beats_best m l None is best same h = refl
beats_best m l (Some o) is None same h = refl
beats_best m l (Some o) is (Some v) same h =
    let at : not (beats o.sense (value_of (settled_alone l.region) o.expr) v) ≡ false =
    sym (ap (λ best. passes (λ best. passes (λ p. not (beats p.sense (value_of (settled_alone l.region) p.expr) best)) m.objective) best) same
    ∙ ap (λ q. passes (λ p. not (beats p.sense (value_of (settled_alone l.region) p.expr) v)) q) is) ∙ h in
    ap (λ q. passes (λ p. beats p.sense (value_of (settled_assignment m l.region) p.expr) v) q) is
    ∙ ap (λ z. beats o.sense z v) (value_same (settled_assignment m l.region) (settled_alone l.region) refl o.expr) ∙ not-false _ at

-- a relation of the members of a sequence holds: of other kinds this says nothing
abbrev keeps_related : Data → Assignment → Constraint → Bool
keeps_related m a d = is_some (related_in d) implies holds m a d

all_related_hold : (m : Data) (l : Seen) (a : Assignment) → IsSettledLook m l → IsSettledTo m l.region a → a.orders ≡ settled_orders l.region → ((w : HierWitness) → hier_refutes m l w ≡ false) → list_all (keeps_related m a) m.constraints ≡ true
all_related_hold m l a ok to is none = all_listed (keeps_related m a) m.constraints (λ c d here. of_sequence c d here (related_in d) refl)
  where
    of_sequence : (c : ℕ) (d : Constraint) → slice_get m.constraints c ≡ Some d → (o : Option Seq) → related_in d ≡ o → (is_some (related_in d) implies holds m a d) ≡ true
    of_sequence c d here None of = ap (λ o. is_some o implies holds m a d) of
    of_sequence c d here (Some p) of =
        let order = settled_ordered m l a p ok to (orders_settled l.region a p is) in
        ap (λ o. is_some o implies holds m a d) of ∙ unrefuted_related m l a c d p ok.valid to order.lists order.allows none here of

-- a cumulative function keeps its bounds: of other kinds this says nothing
abbrev keeps_level : Data → Assignment → Constraint → Bool
keeps_level m a (CumulIn f w lo hi) = holds m a (CumulIn f w lo hi)
keeps_level m a _ = true

level_kept : (m : Data) (l : Seen) (a : Assignment) → IsValid m → IsSettledTo m l.region a → ((w : CumulWitness) → cumul_refutes m l w ≡ false) → (c : ℕ) (d : Constraint) → slice_get m.constraints c ≡ Some d → keeps_level m a d ≡ true
level_kept m l a valid to none c (CumulIn f w lo hi) here = unrefuted_bounded m l a c f w lo hi valid to none here
level_kept m l a valid to none c _ here = refl

-- a constraint is kept by the part that speaks of its kind
record IsKept (m : Data) (r : Region) (a : Assignment) (c : Constraint) : Type 0 where
  leaf : keeps m r c ≡ true
  family : keeps_family m a c ≡ true
  apart : keeps_apart m a c ≡ true
  related : keeps_related m a c ≡ true
  level : keeps_level m a c ≡ true
  state : keeps_state m a c ≡ true

-- and there is one for each kind
kept_holds : (m : Data) (r : Region) (a : Assignment) (c : Constraint) → a.slots ≡ settled_slots r → IsKept m r a c → holds m a c ≡ true
kept_holds m r a (Temporal from to equal x y z) same kept = holds_same m a (settled_alone r) same (Temporal from to equal x y z) refl ∙ kept.leaf
kept_holds m r a (Logic e) same kept = holds_same m a (settled_alone r) same (Logic e) refl ∙ kept.leaf
kept_holds m r a (NoOverlap p matrix direct) same kept = kept.apart
kept_holds m r a (First p x) same kept = kept.related
kept_holds m r a (Last p x) same kept = kept.related
kept_holds m r a (Before p x y) same kept = kept.related
kept_holds m r a (Prev p x y) same kept = kept.related
kept_holds m r a (CumulIn f w lo hi) same kept = kept.level
kept_holds m r a (AlwaysEqual g x v i j) same kept = kept.state
kept_holds m r a (AlwaysNoState g x) same kept = kept.state
kept_holds m r a other same kept = kept.family

-- no witness of an interval and its parts, of a sequence, or of a cumulative or a state function refutes
pub record NoneRefutes (m : Data) (l : Seen) : Type 0 where
  pub hier : (w : HierWitness) → hier_refutes m l w ≡ false
  pub seq : (w : SeqWitness) → is_derived_seq w ≡ true → seq_refutes m l w ≡ false
  pub cumul : (w : CumulWitness) → cumul_refutes m l w ≡ false
  pub state : (w : StateWitness) → state_refutes m l w ≡ false

all_hold : (m : Data) (l : Seen) → IsSettledLook m l → IsSettledTo m l.region (settled_assignment m l.region) → list_all (keeps m l.region) m.constraints ≡ true → NoneRefutes m l → list_all (holds m (settled_assignment m l.region)) m.constraints ≡ true
all_hold m l ok to leaf none = all_listed (holds m a) m.constraints (λ n c here. kept_holds m l.region a c refl (record {
  leaf = all_at (keeps m l.region) m.constraints n c leaf here;
  family = all_at (keeps_family m a) m.constraints n c (all_unrefuted_hold m l a ok.valid to none.hier) here;
  apart = all_at (keeps_apart m a) m.constraints n c (all_kept_apart m l a ok to refl) here;
  related = all_at (keeps_related m a) m.constraints n c (all_related_hold m l a ok to refl none.hier) here;
  level = level_kept m l a ok.valid to none.cumul n c here;
  state = all_at (keeps_state m a) m.constraints n c (all_states_kept m l a ok.valid to refl none.state) here;
}))
  where
    a : Assignment
    a = settled_assignment m l.region

-- what passes LEAF, and which no such witness refutes, is a solution
passes_solves : (m : Data) (l : Seen) → IsValid m → IsRegionOf m l.region → is_settled l.region ≡ true → PassesLeaf m l → NoneRefutes m l → Solves m l
passes_solves m l valid of settled passed none =
    let ok : IsSettledLook m l = record { valid = valid; of = of; settled = settled; none = none.seq } in
    let to : IsSettledTo m l.region (settled_assignment m l.region) = record { of = of; settled = settled; slots = refl; fits = settled_fits m l.region of settled passed.sized } in
    record {
      solution = true_both (is_in_domain m (settled_assignment m l.region)) _ (settled_in_domain m l ok to none.state) (all_hold m l ok to passed.kept none);
      allowed = settled_allowed m l ok;
      better = beats_best m l m.objective refl l.best refl passed.better;
    }

-- on a settled region that no kind but LEAF refutes, the assignment that is left is a solution, and better than the best
-- value where there are an objective and a best value
pub unrefuted_solves : (m : Data) (l : Seen) → IsValid m → IsRegionOf m l.region → is_settled l.region ≡ true → ((w : BasicWitness) → is_derived w ≡ true → refutes m l w ≡ false) → NoneRefutes m l → Solves m l
unrefuted_solves m l valid of settled basic none = passes_solves m l valid of settled (unrefuted_passes m l valid of settled basic) none

-- so it is where all is quiet
pub quiet_solves : (m : Data) (r : Region) (best : Option ℤ) → IsValid m → IsRegionOf m r → is_settled r ≡ true → IsQuietRegion m r best → Solves m (seen_at r best None)
quiet_solves m r best valid of settled quiet = unrefuted_solves m (seen_at r best None) valid of settled
    (λ w derived. quiet.unrefuted (witness.Basic w) None derived refl)
    (record {
      hier = λ w. quiet.unrefuted (witness.Hier w) None refl refl;
      seq = λ w derived. quiet.unrefuted (witness.Seq w) None derived refl;
      cumul = λ w. quiet.unrefuted (witness.Cumul w) None refl refl;
      state = λ w. quiet.unrefuted (witness.State w) None refl refl;
    })
