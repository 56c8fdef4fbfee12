-- The segments that a settled region leaves, of which no witness of this crate refutes, are in the domain, and by them the
-- state constraints hold.
use Rattle.std.specs.Prelude.{◌≡◌, ◌⊎◌, ℕ, zero, suc, ◌<◌, ◌≤◌, ℤ, pos, neg_ℤ, ◌+ℤ◌, ◌≤ℤ◌, ◌<ℤ◌, Bool, true, false, not, ◌&&◌, ◌||◌, List, [], ◌∷◌, length, Option, Some, None, option_and_then, slice_get, nat_eq, nat_lt, nat_abs, int_le, int_lt}
use Rattle.std.specs.Ordering.{int_eq}
use Rattle.std.specs.List.{list_all, filter_map, cons_option}
use Rattle.std.proofs.Common.{refl, arith, inl, inr, sym, subst, ap, ◌∙◌, get_or}
use Rattle.std.proofs.lemmas.Int.{ints}
use Rattle.std.proofs.lemmas.Bool.{true≢false, or_parts, or_right}
use Rattle.std.proofs.lemmas.Bool.Decides.{nat_tests}
use Rattle.base_laws.specs.laws.Items.{all_listed}
use Rattle.base_laws.specs.laws.Numbers.{differs}
use Rattle.base_laws.specs.laws.Truth.{all_three, other_fails, all_four}
use Rattle.sched_base.specs.declared.ids.Itv.{Itv}
use Rattle.sched_base.specs.declared.ids.Stf.{Stf}
use Rattle.sched_model.specs.declared.types.Assignment.{Assignment}
use Rattle.sched_model.specs.declared.types.Constraint.{Constraint}
use Rattle.sched_model.specs.declared.types.Constraint.TheVariants.{AlwaysEqual, AlwaysNoState}
use Rattle.sched_model.specs.declared.types.IntervalDef.{IntervalDef}
use Rattle.sched_model.specs.declared.types.Slot.{Slot}
use Rattle.sched_model.specs.declared.types.Slot.TheVariants.{Absent, Present}
use Rattle.sched_model.specs.Words.{◌implies◌, is_between, passes, placewise}
use Rattle.sched_model.specs.Bounds.{is_moment, is_amount, is_number, is_span_of_moments}
use Rattle.sched_model.specs.Domain.{fits_def, is_row, are_segments}
use Rattle.sched_model.specs.Valid.{IsValid, is_interval_def, is_constraint}
use Rattle.sched_model.specs.Data.{Data, state_matrix, matrix_of, distance, horizon}
use Rattle.sched_model.specs.Value.{is_present, is_here, start_or, end_or, start_of, end_of}
use Rattle.sched_model.specs.States.{demands}
use Rattle.sched_model.specs.Sentences.{holds}
use Rattle.sched_model.specs.laws.Limits.{constraint_number}
use Rattle.region.specs.declared.types.Bounds.{Bounds}
use Rattle.region.specs.Cells.{Region, unknown, bounds_of, says_present, says_maybe, is_fixed, is_ordered}
use Rattle.region.specs.Looks.{Seen, is_narrowed, est_in, lct_in, est_of, lct_of, lst_of, ect_of}
use Rattle.region.specs.laws.Lists.{both_true, true_both, placewise-length, all-at}
use Rattle.region.specs.laws.Pinned.{IsSettledTo, Pinned, pinned, present_is}
use Rattle.refute_state.specs.declared.stretch.Stretch.{Stretch}
use Rattle.refute_state.specs.declared.demand.Demand.{Demand}
use Rattle.refute_state.specs.declared.witness.StateWitness.{StateWitness}
use Rattle.refute_state.specs.declared.witness.StateWitness.TheVariants.{State, State3}
use Rattle.refute_state.specs.Demands.{demand_of, demand_at, of_demand, state_gap, demand_gap}
use Rattle.refute_state.specs.Times.{is_long_in, is_long, is_late}
use Rattle.refute_state.specs.State.{goes_past, cant_share, state_pair, state_row}
use Rattle.refute_state.specs.State3.{state_triple, state3_row}
use Rattle.refute_state.specs.OnState.{refutes}
use Rattle.refute_state.specs.code.Groups.{segment_of}
use Rattle.refute_state.specs.code.Canonical.{stretch_of, empty_of, canonical, settled_segments}
use Rattle.refute_state.specs.laws.Lists.{Each, Pairs}
use Rattle.refute_state.specs.laws.Settled.{In, each_in, settled_serves}
use Rattle.refute_state.specs.laws.Facts.{Proper, Fits}
use Rattle.refute_state.specs.laws.Canonical.{IsGood, Far, demands_of, gaps_of, stretch, no_def, each_given, all_each, taken, proper_from, far_low, ServeEach, segments_kept, sentence_kept, with_canonical}
use Rattle.refute_state.specs.laws.Pairing.{Pair, Triple, Rows, Closed, pairs_given, two, rows_unrefuted}

-- how a region shows what demands something at settled slots
record Settles (r : Region) (a : Assignment) : Type 0 where
  long : (x : Itv) → demands a x ≡ true → is_long r x ≡ true
  est : (x : Itv) → demands a x ≡ true → est_of r x ≡ start_of a x
  lct : (x : Itv) → demands a x ≡ true → lct_of r x ≡ end_of a x
  lst : (x : Itv) → demands a x ≡ true → lst_of r x ≡ start_of a x
  ect : (x : Itv) → demands a x ≡ true → ect_of r x ≡ end_of a x

-- what the rows say of constraints
abbrev pair_row : Data → Region → Constraint → Constraint → Bool
pair_row m r c e = passes (λ a. passes (λ b. state_pair m r a b) (demand_of e)) (demand_of c)

abbrev triple_row : Data → Region → Constraint → Constraint → Constraint → Bool
triple_row m r c z e = passes (λ a. passes (λ x. passes (λ b. state_triple m r a x b) (demand_of e)) (demand_of z)) (demand_of c)

not_late : (r : Region) (a : Assignment) (x y : Itv) (d : ℤ) → Settles r a → demands a x ≡ true → demands a y ≡ true → is_late r x d y ≡ false → (end_of a x +ℤ d) ≤ℤ start_of a y
not_late r a x y d settles one other h = cut (lst_of r y) (ect_of r x) (start_of a y) (end_of a x) d (settles.lst y other) (settles.ect x one) h
  where
    cut : (l e s f d : ℤ) → l ≡ s → e ≡ f → int_lt l (e +ℤ d) ≡ false → (f +ℤ d) ≤ℤ s
    cut l e s f d g h i = grind (arith, ints, g, h, i)

named : (h n : ℕ) → nat_eq h n ≡ true → h ≡ n
named h n is = grind (arith, nat_tests, is)

-- a demand that isn't gone past
kept_in : (r : Region) (a : Assignment) (d e : Demand) → Settles r a → demands a d.x ≡ true → demands a e.x ≡ true → goes_past r d e ≡ false → (d.ends ≡ true → end_of a e.x ≤ℤ end_of a d.x) × (d.starts ≡ true → start_of a d.x ≤ℤ start_of a e.x)
kept_in r a d e settles one other h =
    let p = or_parts (d.ends && int_lt (lct_of r d.x) (ect_of r e.x)) (d.starts && int_lt (lst_of r e.x) (est_of r d.x)) h in (
      λ is. cut (lct_of r d.x) (ect_of r e.x) (end_of a d.x) (end_of a e.x) (settles.lct d.x one) (settles.ect e.x other) (other_fails d.ends _ p.0 is),
      λ is. cut (lst_of r e.x) (est_of r d.x) (start_of a e.x) (start_of a d.x) (settles.lst e.x other) (settles.est d.x one) (other_fails d.starts _ p.1 is),
    )
  where
    cut : (l e s f : ℤ) → l ≡ s → e ≡ f → int_lt l e ≡ false → f ≤ℤ s
    cut l e s f g h i = grind (arith, ints, g, h, i)

-- the distance between two states of a function
gap_is : (m : Data) (g : Stf) (n : ℕ) (v w : ℤ) → g.0 ≡ n → state_gap m g (Some v) (Some w) ≡ Far m (get_or m.states n no_def) v w
gap_is m g n v w is = ap (λ k. distance m (get_or m.states k no_def).matrix (nat_abs v) (nat_abs w)) is

differ_is : (v w : ℤ) → (v ≡ w → ⊥) → not (int_eq v w) ≡ true
differ_is v w none = decided (int_eq v w) refl
  where
    decided : (b : Bool) → int_eq v w ≡ b → not b ≡ true
    decided true is = absurd (none (grind (arith, ints, is)))
    decided false is = refl

-- a constraint that demands
pub record Demands (a : Assignment) (n : ℕ) (h : Stf) (x : Itv) (v : ℤ) (i j : Bool) (d : Stretch) : Type 0 where
  pub of : h.0 ≡ n
  pub there : demands a x ≡ true
  pub is : stretch a x v i j ≡ d

given_is : (a : Assignment) (n : ℕ) (h : Stf) (x : Itv) (v : ℤ) (i j : Bool) (d : Stretch) → stretch_of a.slots (record { 0 = n }) (AlwaysEqual h x v i j) ≡ Some d → Demands a n h x v i j d
given_is a n h x v i j d is =
    let t = taken (nat_eq h.0 n && demands a x) (stretch a x v i j) d is in
    let p = both_true (nat_eq h.0 n) (demands a x) t.0 in
    record { of = named h.0 n p.0; there = p.1; is = t.1 }

same_number : (g h n : ℕ) → g ≡ n → h ≡ n → nat_eq g h ≡ true
same_number g h n a b = grind (arith, nat_tests, a, b)

-- which of the last sentences of a row fails, where the first hold
of_six : (p q r s t u : Bool) → p ≡ true → q ≡ true → r ≡ true → (p && q && r && s && t && u) ≡ false → (s ≡ false) ⊎ (t ≡ false) ⊎ (u ≡ false)
of_six true true true true true u h i j k = inr (inr k)
of_six true true true true false u h i j k = inr (inl refl)
of_six true true true false t u h i j k = inl refl
of_six false q r s t u h i j k = cc
of_six true false r s t u h i j k = cc
of_six true true false s t u h i j k = cc

pair_of : (m : Data) (r : Region) (a : Assignment) (n : ℕ) (g h : Stf) (x y : Itv) (v w : ℤ) (i j k l : Bool) → Settles r a → g.0 ≡ n → h.0 ≡ n → demands a x ≡ true → demands a y ≡ true
    → pair_row m r (AlwaysEqual g x v i j) (AlwaysEqual h y w k l) ≡ false → Pair (Far m (get_or m.states n no_def)) (stretch a x v i j) (stretch a y w k l)
pair_of m r a n g h x y v w i j k l settles of_g of_h one other row =
    let d : Demand = record { g = g; x = x; state = Some v; starts = i; ends = j } in
    let e : Demand = record { g = h; x = y; state = Some w; starts = k; ends = l } in
    let rest = of_six (nat_eq g.0 h.0) (is_long r x) (is_long r y) (is_late r x (demand_gap m d e) y) (is_late r y (demand_gap m e d) x) (cant_share r d e) (same_number g.0 h.0 n of_g of_h) (settles.long x one) (settles.long y other) row in
    record {
      other = λ differ. elim rest [
        | inl free ↦ inl (first free)
        | inr (inl free) ↦ inr (second free)
        | inr (inr none) ↦ absurd (clash (differ_is v w differ) (or_parts (not (int_eq v w)) (goes_past r d e) (or_parts (not (int_eq v w) || goes_past r d e) (goes_past r e d) none).0).0)
      ];
      same = λ same. elim rest [
        | inl free ↦ inl (inl (first free))
        | inr (inl free) ↦ inl (inr (second free))
        | inr (inr none) ↦ let p = or_parts (not (int_eq v w) || goes_past r d e) (goes_past r e d) none in
            inr (kept_in r a d e settles one other (or_parts (not (int_eq v w)) (goes_past r d e) p.0).1, kept_in r a e d settles other one p.1)
      ];
    }
  where
    clash : {b : Bool} → b ≡ true → b ≡ false → ⊥
    clash {b} h i = true≢false (sym h ∙ i)

    first : is_late r x (state_gap m g (Some v) (Some w)) y ≡ false → (end_of a x +ℤ Far m (get_or m.states n no_def) v w) ≤ℤ start_of a y
    first p = subst (λ d. (end_of a x +ℤ d) ≤ℤ start_of a y) (gap_is m g n v w of_g) (not_late r a x y (state_gap m g (Some v) (Some w)) settles one other p)

    second : is_late r y (state_gap m h (Some w) (Some v)) x ≡ false → (end_of a y +ℤ Far m (get_or m.states n no_def) w v) ≤ℤ start_of a x
    second p = subst (λ d. (end_of a y +ℤ d) ≤ℤ start_of a x) (gap_is m h n w v of_h) (not_late r a y x (state_gap m h (Some w) (Some v)) settles other one p)

abbrev NoPair : Data → Region → Type 0
NoPair m r = Pairs (λ c e. pair_row m r c e ≡ false) m.constraints

abbrev NoTriple : Data → Region → Type 0
NoTriple m r = Pairs (λ c e. (z : Constraint) → In m.constraints z → (triple_row m r c z e ≡ false) × (triple_row m r e z c ≡ false)) m.constraints

pair_case : (m : Data) (r : Region) (a : Assignment) (n : ℕ) (c e : Constraint) (d f : Stretch) → Settles r a → pair_row m r c e ≡ false → stretch_of a.slots (record { 0 = n }) c ≡ Some d → stretch_of a.slots (record { 0 = n }) e ≡ Some f
    → Pair (Far m (get_or m.states n no_def)) d f
pair_case m r a n (AlwaysEqual g x v i j) (AlwaysEqual h y w k l) d f settles row one other =
    let p = given_is a n g x v i j d one in
    let q = given_is a n h y w k l f other in
    subst (λ s. Pair (Far m (get_or m.states n no_def)) s f) p.is (subst (λ s. Pair (Far m (get_or m.states n no_def)) (stretch a x v i j) s) q.is (pair_of m r a n g h x y v w i j k l settles p.of q.of p.there q.there row))
pair_case m r a n (AlwaysEqual g x v i j) e d f settles row one other = cc
pair_case m r a n c e d f settles row one other = cc

-- a stretch without a state
pub record Empties (a : Assignment) (n : ℕ) (h : Stf) (x : Itv) (s : ℤ × ℤ) : Type 0 where
  pub of : h.0 ≡ n
  pub there : demands a x ≡ true
  pub start : s.0 ≡ start_of a x
  pub end : s.1 ≡ end_of a x

empty_is : (a : Assignment) (n : ℕ) (h : Stf) (x : Itv) (s : ℤ × ℤ) → empty_of a.slots (record { 0 = n }) (AlwaysNoState h x) ≡ Some s → Empties a n h x s
empty_is a n h x s is =
    let t = taken (nat_eq h.0 n && demands a x) (start_of a x, end_of a x) s is in
    let p = both_true (nat_eq h.0 n) (demands a x) t.0 in
    record { of = named h.0 n p.0; there = p.1; start = ap (λ q. q.0) (sym t.1); end = ap (λ q. q.1) (sym t.1) }

-- two of which one wants no state
free_from : (m : Data) (r : Region) (a : Assignment) (n : ℕ) (g h : Stf) (x y : Itv) (p : Bool) (s : ℤ × ℤ) → Settles r a → g.0 ≡ n → demands a x ≡ true → Empties a n h y s → (is_late r x (pos 0) y ≡ false) ⊎ (is_late r y (pos 0) x ≡ false) ⊎ (true ≡ false)
    → (end_of a x ≤ℤ s.0) ⊎ (s.1 ≤ℤ start_of a x)
free_from m r a n g h x y p s settles of_g one empty free =
    let es = empty.start in
    let ee = empty.end in
    elim free [
      | inl p ↦ let q = not_late r a x y (pos 0) settles one empty.there p in inl (omega (arith, ints, q, es))
      | inr (inl p) ↦ let q = not_late r a y x (pos 0) settles empty.there one p in inr (omega (arith, ints, q, ee))
      | inr (inr p) ↦ absurd (true≢false p)
    ]

turned_late : {P Q R : Type 0} → P ⊎ Q ⊎ R → Q ⊎ P ⊎ R
turned_late h = elim h [ inl p ↦ inr (inl p) | inr (inl q) ↦ inl q | inr (inr t) ↦ inr (inr t) ]

free_case : (m : Data) (r : Region) (a : Assignment) (n : ℕ) (c e : Constraint) (d : Stretch) (s : ℤ × ℤ) → Settles r a → (pair_row m r c e ≡ false) ⊎ (pair_row m r e c ≡ false) → stretch_of a.slots (record { 0 = n }) c ≡ Some d → empty_of a.slots (record { 0 = n }) e ≡ Some s
    → (d.end ≤ℤ s.0) ⊎ (s.1 ≤ℤ d.start)
free_case m r a n (AlwaysEqual g x v i j) (AlwaysNoState h y) d s settles row one other =
    let p = given_is a n g x v i j d one in
    let q = empty_is a n h y s other in
    let long = settles.long x p.there in
    let wide = settles.long y q.there in
    subst (λ z. (z.end ≤ℤ s.0) ⊎ (s.1 ≤ℤ z.start)) p.is (free_from m r a n g h x y i s settles p.of p.there q (elim row [
      | inl f ↦ of_six (nat_eq g.0 h.0) (is_long r x) (is_long r y) (is_late r x (pos 0) y) (is_late r y (pos 0) x) true (same_number g.0 h.0 n p.of q.of) long wide f
      | inr f ↦ turned_late (of_six (nat_eq h.0 g.0) (is_long r y) (is_long r x) (is_late r y (pos 0) x) (is_late r x (pos 0) y) true (same_number h.0 g.0 n q.of p.of) wide long f)
    ]))
free_case m r a n (AlwaysEqual g x v i j) e d s settles row one other = cc
free_case m r a n c e d s settles row one other = cc

-- three
of_seven : (p q r s t u v : Bool) → p ≡ true → q ≡ true → r ≡ true → s ≡ true → (p && q && r && s && t && u && v) ≡ false → (t ≡ false) ⊎ (u ≡ false) ⊎ (v ≡ false)
of_seven true true true true true true v h i j k o = inr (inr o)
of_seven true true true true true false v h i j k o = inr (inl refl)
of_seven true true true true false u v h i j k o = inl refl
of_seven false q r s t u v h i j k o = cc
of_seven true false r s t u v h i j k o = cc
of_seven true true false s t u v h i j k o = cc
of_seven true true true false t u v h i j k o = cc

closed_of : (m : Data) (r : Region) (a : Assignment) (n : ℕ) (g : Stf) (x z y : Itv) (v w : ℤ) → Settles r a → g.0 ≡ n → demands a x ≡ true → demands a z ≡ true → demands a y ≡ true
    → (is_late r z (pos 0) x ≡ false) ⊎ (is_late r y (pos 0) z ≡ false) ⊎ (is_late r x (state_gap m g (Some v) (Some w)) y ≡ false)
    → ((end_of a x +ℤ Far m (get_or m.states n no_def) v w) ≤ℤ start_of a y) ⊎ (end_of a z ≤ℤ start_of a x) ⊎ (end_of a y ≤ℤ start_of a z)
closed_of m r a n g x z y v w settles of_g one mid other h = elim h [
  | inl p ↦ let q = not_late r a z x (pos 0) settles mid one p in inr (inl (omega (arith, ints, q)))
  | inr (inl p) ↦ let q = not_late r a y z (pos 0) settles other mid p in inr (inr (omega (arith, ints, q)))
  | inr (inr p) ↦ inl (subst (λ d. (end_of a x +ℤ d) ≤ℤ start_of a y) (gap_is m g n v w of_g) (not_late r a x y (state_gap m g (Some v) (Some w)) settles one other p))
]

is_same : (v w : ℤ) → v ≡ w → int_eq v w ≡ true
is_same v w h = grind (arith, ints, h)

closed_case : (m : Data) (r : Region) (a : Assignment) (n : ℕ) (c z e : Constraint) (d x f : Stretch) → Settles r a → triple_row m r c z e ≡ false → stretch_of a.slots (record { 0 = n }) c ≡ Some d → stretch_of a.slots (record { 0 = n }) z ≡ Some x → stretch_of a.slots (record { 0 = n }) e ≡ Some f
    → d.state ≡ f.state → (d.state ≡ x.state → ⊥) → Closed (Far m (get_or m.states n no_def)) d x.start x.end f
closed_case m r a n (AlwaysEqual g x v i j) (AlwaysEqual h z u o p) (AlwaysEqual q y w k l) d s f settles row one mid other =
    let p1 = given_is a n g x v i j d one in
    let p2 = given_is a n h z u o p s mid in
    let p3 = given_is a n q y w k l f other in
    subst (λ D. D.state ≡ f.state → (D.state ≡ s.state → ⊥) → Closed (Far m (get_or m.states n no_def)) D s.start s.end f) p1.is
    (subst (λ S. v ≡ f.state → (v ≡ S.state → ⊥) → Closed (Far m (get_or m.states n no_def)) (stretch a x v i j) S.start S.end f) p2.is
    (subst (λ F. v ≡ F.state → (v ≡ u → ⊥) → Closed (Far m (get_or m.states n no_def)) (stretch a x v i j) (start_of a z) (end_of a z) F) p3.is
    (λ same differ. closed_of m r a n g x z y v w settles p1.of p1.there p2.there p3.there
    (of_seven (nat_eq g.0 h.0 && nat_eq g.0 q.0 && int_eq v w && not (int_eq v u)) (is_long r x) (is_long r z) (is_long r y) (is_late r z (pos 0) x) (is_late r y (pos 0) z) (is_late r x (state_gap m g (Some v) (Some w)) y)
    (all_four (nat_eq g.0 h.0) (nat_eq g.0 q.0) (int_eq v w) (not (int_eq v u)) (same_number g.0 h.0 n p1.of p2.of) (same_number g.0 q.0 n p1.of p3.of) (is_same v w same) (differ_is v u differ))
    (settles.long x p1.there) (settles.long z p2.there) (settles.long y p3.there) row))))
closed_case m r a n (AlwaysEqual g x v i j) (AlwaysEqual h z u o p) e d s f settles row one mid other = cc
closed_case m r a n (AlwaysEqual g x v i j) z e d s f settles row one mid other = cc
closed_case m r a n c z e d s f settles row one mid other = cc

against_case : (m : Data) (r : Region) (a : Assignment) (n : ℕ) (c z e : Constraint) (d : Stretch) (s : ℤ × ℤ) (f : Stretch) → Settles r a → triple_row m r c z e ≡ false → stretch_of a.slots (record { 0 = n }) c ≡ Some d → empty_of a.slots (record { 0 = n }) z ≡ Some s → stretch_of a.slots (record { 0 = n }) e ≡ Some f
    → d.state ≡ f.state → Closed (Far m (get_or m.states n no_def)) d s.0 s.1 f
against_case m r a n (AlwaysEqual g x v i j) (AlwaysNoState h z) (AlwaysEqual q y w k l) d s f settles row one mid other =
    let p1 = given_is a n g x v i j d one in
    let p2 = empty_is a n h z s mid in
    let p3 = given_is a n q y w k l f other in
    let es = p2.start in
    let ee = p2.end in
    subst (λ D. D.state ≡ f.state → Closed (Far m (get_or m.states n no_def)) D s.0 s.1 f) p1.is
    (subst (λ F. v ≡ F.state → Closed (Far m (get_or m.states n no_def)) (stretch a x v i j) s.0 s.1 F) p3.is
    (λ same. elim (closed_of m r a n g x z y v w settles p1.of p1.there p2.there p3.there
    (of_seven (nat_eq g.0 h.0 && nat_eq g.0 q.0 && int_eq v w && true) (is_long r x) (is_long r z) (is_long r y) (is_late r z (pos 0) x) (is_late r y (pos 0) z) (is_late r x (state_gap m g (Some v) (Some w)) y)
    (all_four (nat_eq g.0 h.0) (nat_eq g.0 q.0) (int_eq v w) true (same_number g.0 h.0 n p1.of p2.of) (same_number g.0 q.0 n p1.of p3.of) (is_same v w same) refl)
    (settles.long x p1.there) (settles.long z p2.there) (settles.long y p3.there) row)) [
      | inl b ↦ inl b
      | inr (inl b) ↦ inr (inl (omega (arith, ints, b, ee)))
      | inr (inr b) ↦ inr (inr (omega (arith, ints, b, es)))
    ]))
against_case m r a n (AlwaysEqual g x v i j) (AlwaysNoState h z) e d s f settles row one mid other = cc
against_case m r a n (AlwaysEqual g x v i j) z e d s f settles row one mid other = cc
against_case m r a n c z e d s f settles row one mid other = cc

-- what a list of those that are there comes from
in_given : {X Y : Type 0} (h : X → Option Y) (xs : List X) (y : Y) → In (filter_map h xs) y → (x : X) × In xs x × (h x ≡ Some y)
in_given h [] y here = absurd here
in_given h (x ∷ xs) y here = decided (h x) refl here (λ later. in_given h xs y later)
  where
    more : (z : _) × In xs z × (h z ≡ Some y) → (z : _) × In (x ∷ xs) z × (h z ≡ Some y)
    more p = (p.0, inr p.1, p.2)

    decided : (o : Option _) → h x ≡ o → In (cons_option o (filter_map h xs)) y → (In (filter_map h xs) y → (z : _) × In xs z × (h z ≡ Some y)) → (z : _) × In (x ∷ xs) z × (h z ≡ Some y)
    decided None is here rest = more (rest here)
    decided (Some w) is here rest = elim here [
      | inl e ↦ (x, inl refl, is ∙ ap (λ v. Some v) e)
      | inr later ↦ more (rest later)
    ]

not_both : (a : Assignment) (n : ℕ) (c : Constraint) (d : Stretch) (s : ℤ × ℤ) → stretch_of a.slots (record { 0 = n }) c ≡ Some d → empty_of a.slots (record { 0 = n }) c ≡ Some s → ⊥
not_both a n (AlwaysEqual g x v i j) d s one other = cc
not_both a n c d s one other = cc

rows_of : (m : Data) (r : Region) (a : Assignment) (n : ℕ) → Settles r a → NoPair m r → NoTriple m r → Rows (Far m (get_or m.states n no_def)) (demands_of m a (record { 0 = n })) (gaps_of m a (record { 0 = n }))
rows_of m r a n settles pairs triples = record {
  pairs = pairs_given (λ c e. pair_row m r c e ≡ false) (Pair (Far m (get_or m.states n no_def))) (stretch_of a.slots (record { 0 = n })) m.constraints (λ c e d f row one other. pair_case m r a n c e d f settles row one other) pairs;
  free = λ d s here there.
      let c = in_given (stretch_of a.slots (record { 0 = n })) m.constraints d here in
      let e = in_given (empty_of a.slots (record { 0 = n })) m.constraints s there in
      elim (two (λ c e. pair_row m r c e ≡ false) m.constraints c.0 e.0 pairs c.1 e.1) [
        | inl same ↦ absurd (not_both a n c.0 d s c.2 (ap (empty_of a.slots (record { 0 = n })) same ∙ e.2))
        | inr row ↦ free_case m r a n c.0 e.0 d s settles row c.2 e.2
      ];
  triples = pairs_given (λ c e. (z : Constraint) → In m.constraints z → (triple_row m r c z e ≡ false) × (triple_row m r e z c ≡ false)) (Triple (Far m (get_or m.states n no_def)) (demands_of m a (record { 0 = n })) (gaps_of m a (record { 0 = n })))
      (stretch_of a.slots (record { 0 = n })) m.constraints (λ c e d f row one other. record {
        states = λ x here same differ. let z = in_given (stretch_of a.slots (record { 0 = n })) m.constraints x here in (
          closed_case m r a n c z.0 e d x f settles (row z.0 z.1).0 one z.2 other same differ,
          closed_case m r a n e z.0 c f x d settles (row z.0 z.1).1 other z.2 one (sym same) (λ k. differ (same ∙ k)),
        );
        gaps = λ s here same. let z = in_given (empty_of a.slots (record { 0 = n })) m.constraints s here in (
          against_case m r a n c z.0 e d s f settles (row z.0 z.1).0 one z.2 other same,
          against_case m r a n e z.0 c f s d settles (row z.0 z.1).1 other z.2 one (sym same),
        );
      }) triples;
}

-- each demand is a segment of its function
most_is : (x y : ℤ) → int_le x y ≡ true → x ≤ℤ y
most_is x y h = grind (arith, ints, h)

slot_bounds : (ds : List IntervalDef) (ss : List Slot) (i : ℕ) → list_all is_interval_def ds ≡ true → placewise fits_def ds ss ≡ true → is_here (get_or ss i Absent) ≡ true → (neg_ℤ horizon ≤ℤ start_or (pos 0) (get_or ss i Absent)) × (end_or (pos 0) (get_or ss i Absent) ≤ℤ horizon)
slot_bounds [] [] i valid fits here = cc
slot_bounds [] (s ∷ ss) i valid fits here = cc
slot_bounds (d ∷ ds) [] i valid fits here = cc
slot_bounds (d ∷ ds) (Absent ∷ ss) zero valid fits here = cc
slot_bounds (d ∷ ds) (Present s e ∷ ss) zero valid fits here =
    let def = (both_true (is_interval_def d) (list_all is_interval_def ds) valid).0 in
    let spans = both_true (is_span_of_moments d.start_lo d.start_hi) (is_span_of_moments d.end_lo d.end_hi) (both_true (is_span_of_moments d.start_lo d.start_hi && is_span_of_moments d.end_lo d.end_hi) _ (both_true _ (int_le (pos 0) d.size_lo) def).0).0 in
    let starts = both_true (is_moment d.start_lo) (is_moment d.start_hi) (both_true (is_moment d.start_lo && is_moment d.start_hi) _ spans.0).0 in
    let ends = both_true (is_moment d.end_lo) (is_moment d.end_hi) (both_true (is_moment d.end_lo && is_moment d.end_hi) _ spans.1).0 in
    let fit = both_true (is_between d.start_lo d.start_hi s && is_between d.end_lo d.end_hi e) _ (both_true (fits_def d (Present s e)) (placewise fits_def ds ss) fits).0 in
    let two_ = both_true (is_between d.start_lo d.start_hi s) (is_between d.end_lo d.end_hi e) fit.0 in
    let low = most_is (neg_ℤ horizon) d.start_lo (both_true (int_le (neg_ℤ horizon) d.start_lo) _ starts.0).0 in
    let high = most_is d.end_hi horizon (both_true _ (int_le d.end_hi horizon) ends.1).1 in
    let from = most_is d.start_lo s (both_true (int_le d.start_lo s) _ two_.0).0 in
    let to = most_is e d.end_hi (both_true _ (int_le e d.end_hi) two_.1).1 in
    (omega (arith, ints, low, from), omega (arith, ints, high, to))
slot_bounds (d ∷ ds) (s ∷ ss) (suc i) valid fits here = slot_bounds ds ss i (both_true (is_interval_def d) _ valid).1 (both_true (fits_def d s) _ fits).1 here

demand_fits : (m : Data) (a : Assignment) (n : ℕ) (c : Constraint) (d : Stretch) → IsValid m → placewise fits_def m.intervals a.slots ≡ true → In m.constraints c → stretch_of a.slots (record { 0 = n }) c ≡ Some d
    → Fits (neg_ℤ horizon) horizon (IsGood m (get_or m.states n no_def)) (segment_of d)
demand_fits m a n (AlwaysEqual g x v i j) d valid fits here is =
    let p = given_is a n g x v i j d is in
    let one = both_true (is_present a x) (int_lt (start_of a x) (end_of a x)) p.there in
    let bounds = slot_bounds m.intervals a.slots x.0 valid.intervals fits one.0 in
    let ok = each_in (λ c. is_constraint m c ≡ true) m.constraints (AlwaysEqual g x v i j) (all_each (is_constraint m) m.constraints valid.constraints) here in
    let row = both_true _ (is_row (matrix_of m (state_matrix m g)) v) ok in
    let amount = (both_true _ (is_amount v) row.0).1 in
    subst (λ s. Fits (neg_ℤ horizon) horizon (IsGood m (get_or m.states n no_def)) (segment_of s)) p.is (record {
      some = less (start_of a x) (end_of a x) one.1;
      low = bounds.0;
      high = bounds.1;
      state = true_both (is_amount v) (is_row (matrix_of m (get_or m.states n no_def).matrix) v) amount (subst (λ k. is_row (matrix_of m (get_or m.states k no_def).matrix) v ≡ true) p.of row.1);
    })
  where
    less : (x y : ℤ) → int_lt x y ≡ true → x <ℤ y
    less x y h = grind (arith, ints, h)
demand_fits m a n c d valid fits here is = cc

serves_settled : (m : Data) (r : Region) (a : Assignment) → IsValid m → placewise fits_def m.intervals a.slots ≡ true → Settles r a → NoPair m r → NoTriple m r → ServeEach m a
serves_settled m r a valid fits settles pairs triples n within =
    let d = get_or m.states n no_def in
    settled_serves (neg_ℤ horizon) horizon (IsGood m d) (Far m d) (demands_of m a (record { 0 = n })) (gaps_of m a (record { 0 = n })) (far_low m d valid)
    (each_given Proper (stretch_of a.slots (record { 0 = n })) m.constraints (λ c y here is. proper_from a (record { 0 = n }) c y is))
    (each_given (λ y. Fits (neg_ℤ horizon) horizon (IsGood m d) (segment_of y)) (stretch_of a.slots (record { 0 = n })) m.constraints (λ c y here is. demand_fits m a n c y valid fits here is))
    (rows_unrefuted (Far m d) (demands_of m a (record { 0 = n })) (gaps_of m a (record { 0 = n })) (far_low m d valid) (rows_of m r a n settles pairs triples))

long_at : (c : Bounds) (s e : ℤ) → says_present c.presence ≡ true → is_fixed c ≡ true → s ≡ est_in c → e ≡ lct_in c → int_lt s e ≡ true → is_long_in c ≡ true
long_at c s e there fixed start end less =
    let same = both_true (int_eq c.smin c.smax) (int_eq c.emin c.emax) (implied (says_present c.presence) _ there fixed) in
    true_both (says_present c.presence) (int_le (pos 1) c.pmin || int_lt c.smax c.emin) there (or_right (int_le (pos 1) c.pmin) (int_lt c.smax c.emin) (cut c.smin c.smax c.emin c.emax s e same.0 same.1 start end less))
  where
    implied : (p q : Bool) → p ≡ true → (not (says_maybe c.presence) && (p implies q)) ≡ true → q ≡ true
    implied true q h k = (both_true (not (says_maybe c.presence)) q k).1
    implied false q h k = absurd (true≢false (sym h))

    cut : (a b f g s e : ℤ) → int_eq a b ≡ true → int_eq f g ≡ true → s ≡ a → e ≡ g → int_lt s e ≡ true → int_lt b f ≡ true
    cut a b f g s e h i j k l = grind (arith, ints, h, i, j, k, l)

settles : (m : Data) (r : Region) (a : Assignment) → IsSettledTo m r a → Settles r a
settles m r a to = record {
  long = λ x wants. let two = both_true (is_present a x) (int_lt (start_of a x) (end_of a x)) wants in let p = at x two.0 in
      long_at (bounds_of r x) (start_of a x) (end_of a x) (sym p.there ∙ two.0) (fixed x two.0) (p.start two.0) (p.end two.0) two.1;
  est = λ x wants. let there = here x wants in sym ((at x there).start there);
  lct = λ x wants. let there = here x wants in sym ((at x there).end there);
  lst = λ x wants. let there = here x wants in (at x there).latest there ∙ sym ((at x there).start there);
  ect = λ x wants. let there = here x wants in (at x there).earliest there ∙ sym ((at x there).end there);
}
  where
    here : (x : Itv) → demands a x ≡ true → is_present a x ≡ true
    here x wants = (both_true (is_present a x) (int_lt (start_of a x) (end_of a x)) wants).0

    at : (x : Itv) → is_present a x ≡ true → Pinned r a x
    at x there = pinned m r a x to (present_is m r a x to there)

    below : (i n : ℕ) → nat_lt i n ≡ true → i < n
    below i n h = grind (arith, nat_tests, h)

    fixed : (x : Itv) → is_present a x ≡ true → is_fixed (bounds_of r x) ≡ true
    fixed x there =
        let inside = below x.0 (length m.intervals) (present_is m r a x to there) in
        let size = placewise-length is_narrowed m.intervals r.bounds to.of.bounds in
        all-at is_fixed r.bounds x.0 unknown (both_true (list_all is_fixed r.bounds) (list_all (is_ordered r) r.orders) to.settled).0 (omega (arith, size, inside))

-- where no witness refutes, no row holds of any constraints
each_listed : {X : Type 0} (P : X → Type 0) (xs : List X) → ((n : ℕ) (x : X) → slice_get xs n ≡ Some x → P x) → Each P xs
each_listed P [] h = tt
each_listed P (x ∷ xs) h = (h 0 x refl, each_listed P xs (λ n y is. h (suc n) y is))

pairs_listed : {X : Type 0} (R : X → X → Type 0) (xs : List X) → ((i j : ℕ) (x y : X) → i < j → slice_get xs i ≡ Some x → slice_get xs j ≡ Some y → R x y) → Pairs R xs
pairs_listed R [] h = tt
pairs_listed R (x ∷ xs) h = (each_listed (R x) xs (λ n y is. h 0 (suc n) x y (omega arith) refl is), pairs_listed R xs (λ i j y z less one other. h (suc i) (suc j) y z (omega (arith, less)) one other))

place_in : {X : Type 0} (xs : List X) (x : X) → In xs x → (n : ℕ) × (slice_get xs n ≡ Some x)
place_in [] x here = absurd here
place_in (y ∷ ys) x here = elim here [
  | inl is ↦ (0, ap Some is)
  | inr later ↦ let n = place_in ys x later in (suc n.0, n.1)
]

-- no witness of this crate refutes
abbrev pub NoneRefutes : Data → Seen → Type 0
NoneRefutes m l = (w : StateWitness) → refutes m l w ≡ false

unrefuted : (p q : Bool) → p ≡ true → (p && q) ≡ false → q ≡ false
unrefuted p q h k = other_fails p q k h

no_pair : (m : Data) (l : Seen) → IsValid m → NoneRefutes m l → NoPair m l.region
no_pair m l valid none = pairs_listed (λ c e. pair_row m l.region c e ≡ false) m.constraints (λ i j c e less one other.
    ap (λ o. passes (λ a. passes (λ b. state_pair m l.region a b) (demand_of e)) o) refl
    ∙ row i j c e one other (unrefuted (nat_lt i j) (of_demand m i (λ a. of_demand m j (λ b. state_pair m l.region a b))) (is_below i j less)
    (unrefuted (is_number i && is_number j) (state_row m l i j) (true_both (is_number i) (is_number j) (constraint_number m i c valid one) (constraint_number m j e valid other)) (none (State i j)))))
  where
    is_below : (i j : ℕ) → i < j → nat_lt i j ≡ true
    is_below i j h = grind (arith, nat_tests, h)

    row : (i j : ℕ) (c e : Constraint) → slice_get m.constraints i ≡ Some c → slice_get m.constraints j ≡ Some e → of_demand m i (λ a. of_demand m j (λ b. state_pair m l.region a b)) ≡ false → pair_row m l.region c e ≡ false
    row i j c e one other h =
        ap (λ o. passes (λ a. passes (λ b. state_pair m l.region a b) (demand_of e)) (option_and_then demand_of o)) (sym one)
        ∙ ap (λ o. passes (λ a. passes (λ b. state_pair m l.region a b) (option_and_then demand_of o)) (demand_at m i)) (sym other)
        ∙ h

no_triple_at : (m : Data) (l : Seen) (i k j : ℕ) (c z e : Constraint) → IsValid m → NoneRefutes m l → (i ≡ j → ⊥) → slice_get m.constraints i ≡ Some c → slice_get m.constraints k ≡ Some z → slice_get m.constraints j ≡ Some e → triple_row m l.region c z e ≡ false
no_triple_at m l i k j c z e valid none apart one mid other =
    ap (λ o. passes (λ a. passes (λ x. passes (λ b. state_triple m l.region a x b) (demand_of e)) (demand_of z)) (option_and_then demand_of o)) (sym one)
    ∙ ap (λ o. passes (λ a. passes (λ x. passes (λ b. state_triple m l.region a x b) (demand_of e)) (option_and_then demand_of o)) (demand_at m i)) (sym mid)
    ∙ ap (λ o. passes (λ a. passes (λ x. passes (λ b. state_triple m l.region a x b) (option_and_then demand_of o)) (demand_at m k)) (demand_at m i)) (sym other)
    ∙ unrefuted (not (nat_eq i j)) (of_demand m i (λ a. of_demand m k (λ x. of_demand m j (λ b. state_triple m l.region a x b)))) (ap not (differs i j apart))
    (unrefuted (is_number i && is_number k && is_number j) (state3_row m l i k j) (all_three (is_number i) (is_number k) (is_number j) (constraint_number m i c valid one) (constraint_number m k z valid mid) (constraint_number m j e valid other)) (none (State3 i k j)))

no_triple : (m : Data) (l : Seen) → IsValid m → NoneRefutes m l → NoTriple m l.region
no_triple m l valid none = pairs_listed (λ c e. (z : Constraint) → In m.constraints z → (triple_row m l.region c z e ≡ false) × (triple_row m l.region e z c ≡ false)) m.constraints (λ i j c e less one other z here.
    let k = place_in m.constraints z here in
    (no_triple_at m l i k.0 j c z e valid none (λ same. apart i j less same) one k.1 other, no_triple_at m l j k.0 i e z c valid none (λ same. apart i j less (sym same)) other k.1 one))
  where
    apart : (i j : ℕ) → i < j → i ≡ j → ⊥
    apart i j h same = omega (arith, h, same)

serve_each : (m : Data) (l : Seen) (a : Assignment) → IsValid m → IsSettledTo m l.region a → NoneRefutes m l → ServeEach m a
serve_each m l a valid to none =
    serves_settled m l.region a valid (subst (λ ss. placewise fits_def m.intervals ss ≡ true) (sym to.slots) to.fits) (settles m l.region a to) (no_pair m l valid none) (no_triple m l valid none)

-- the segments that a settled region leaves, of which no witness refutes, are in the domain
pub segments_fit : (m : Data) (l : Seen) (a : Assignment) → IsValid m → IsSettledTo m l.region a → NoneRefutes m l → placewise (are_segments m) m.states (settled_segments m l.region) ≡ true
segments_fit m l a valid to none = subst (λ ss. placewise (are_segments m) m.states (canonical m ss) ≡ true) to.slots (segments_kept m a (serve_each m l a valid to none))

-- a state constraint holds: of other kinds this says nothing
abbrev pub keeps_state : Data → Assignment → Constraint → Bool
keeps_state m a (AlwaysEqual g x v i j) = holds m a (AlwaysEqual g x v i j)
keeps_state m a (AlwaysNoState g x) = holds m a (AlwaysNoState g x)
keeps_state m a _ = true

-- and with them the state constraints hold
pub all_unrefuted_hold : (m : Data) (l : Seen) (a : Assignment) → IsValid m → IsSettledTo m l.region a → a.segs ≡ settled_segments m l.region → NoneRefutes m l → list_all (keeps_state m a) m.constraints ≡ true
all_unrefuted_hold m l a valid to is none = all_listed (keeps_state m a) m.constraints (λ n c here. kept c (slice_in m.constraints n c here))
  where
    same : with_canonical m a ≡ a
    same = ap (λ ss. record a { segs = ss }) (ap (canonical m) to.slots ∙ sym is)

    slice_in : {X : Type 0} (xs : List X) (n : ℕ) (x : X) → slice_get xs n ≡ Some x → In xs x
    slice_in [] n x h = cc
    slice_in (y ∷ ys) zero x h = inl (cc)
    slice_in (y ∷ ys) (suc n) x h = inr (slice_in ys n x h)

    kept : (c : Constraint) → In m.constraints c → keeps_state m a c ≡ true
    kept (AlwaysEqual g x v i j) here = subst (λ b. holds m b (AlwaysEqual g x v i j) ≡ true) same (sentence_kept m a (AlwaysEqual g x v i j) valid (serve_each m l a valid to none) here refl)
    kept (AlwaysNoState g x) here = subst (λ b. holds m b (AlwaysNoState g x) ≡ true) same (sentence_kept m a (AlwaysNoState g x) valid (serve_each m l a valid to none) here refl)
    kept other here = refl
