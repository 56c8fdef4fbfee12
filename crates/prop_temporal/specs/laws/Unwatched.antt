-- A quiet propagator stays quiet where nothing that it watches changes.
use Rattle.std.specs.Prelude.{◌≡◌, ◌⊎◌, ℕ, zero, suc, ◌<◌, ◌≤◌, ℤ, pos, Bool, true, false, ◌&&◌, ◌||◌, [], length, Option, Some, None, IsTrue, nat_lt, nat_eq, int_le}
use Rattle.std.proofs.Common.{inl, inr, get_or, refl, sym, ap, subst, ◌∙◌, arith}
use Rattle.std.proofs.lemmas.Bool.{true≢false}
use Rattle.std.proofs.lemmas.Bool.Decides.{nat_tests}
use Rattle.std.proofs.lemmas.List.{get_or_past}
use Rattle.std.proofs.lemmas.Option.{slice_get-get_or}
use Rattle.sched_base.specs.declared.ids.Itv.{Itv}
use Rattle.sched_model.specs.declared.types.IntervalDef.{IntervalDef}
use Rattle.sched_model.specs.Words.{passes}
use Rattle.sched_model.specs.Data.{Data}
use Rattle.region.specs.declared.types.CellName.{CellName}
use Rattle.region.specs.declared.types.CellName.TheVariants as cell
use Rattle.region.specs.declared.types.Guess.{Guess}
use Rattle.region.specs.declared.types.Guess.TheVariants.{Present}
use Rattle.region.specs.declared.types.Presence.TheVariants as presence
use Rattle.region.specs.declared.types.Bounds.{Bounds}
use Rattle.region.specs.Claims.{as_present}
use Rattle.region.specs.Cells.{Region, bounds_of, says_maybe, says_present, unknown}
use Rattle.region.specs.Guesses.{SameCell, admits, with_guess, topic}
use Rattle.region.specs.Looks.{IsRegionOf, is_narrowed, seen_at}
use Rattle.region.specs.laws.Intervals.{bounds_there, bounds_elsewhere, ready_present}
use Rattle.region.specs.laws.Lists.{both_true, true_both, placewise-at}
use Rattle.region.specs.laws.Narrowing.{guess_stays, as_many_bounds}
use Rattle.findings.specs.code.Reads.{LooksOnlyAt, is_among, reads_cell}
use Rattle.findings.specs.laws.Kept.{quiet_kept}
use Rattle.refute_basic.specs.declared.witness.BasicWitness.{BasicWitness}
use Rattle.refute_basic.specs.declared.witness.BasicWitness.TheVariants.{Cycle}
use Rattle.refute_basic.specs.Witness.{is_valid}
use Rattle.refute_basic.specs.Basic.{refutes}
use Rattle.refute_basic.specs.Listed.{lists}
use Rattle.refute_basic.specs.laws.Presences.{SameOrders, cycle_alike}
use Rattle.prop_temporal.specs.code.Tasks.{reads_of, looks_after, is_optional, is_of_walks, watching, watching_best, quiet}
use Rattle.prop_temporal.specs.laws.Arcs.{arc_looks, asks_among}
use Rattle.prop_temporal.specs.laws.Owners.{owned}
use Rattle.prop_temporal.specs.laws.Quieting.{NoWalk, quiet_walks, walks_of}

-- the same intervals are present
abbrev pub SamePresences : Region → Region → Type 0
SamePresences r q = (x : Itv) → (bounds_of r x).presence ≡ (bounds_of q x).presence

same_or_not : (i j : ℕ) → (i ≡ j) ⊎ (i ≡ j → ⊥)
same_or_not i j = by_case (nat_eq i j) refl
  where
    by_case : (b : Bool) → nat_eq i j ≡ b → (i ≡ j) ⊎ (i ≡ j → ⊥)
    by_case true is = inl (grind (arith, nat_tests))
    by_case false is = inr (λ e. grind (arith, nat_tests))

abbrev itv_at : ℕ → Itv
itv_at n = record { 0 = n }

-- an interval that isn't optional is present in each region of the model
no_def : IntervalDef
no_def = record { name = []; optional = false; start_lo = pos 0; start_hi = pos 0; end_lo = pos 0; end_hi = pos 0; size_lo = pos 0; size_hi = pos 0 }

is_there : (d : IntervalDef) (c : Bounds) → is_narrowed d c ≡ true → d.optional ≡ false → says_present c.presence ≡ true
is_there d c h mandatory =
    let h8 = (both_true _ _ h).0 in
    let h7 = (both_true _ _ h8).0 in
    let h6 = (both_true _ _ h7).0 in
    let h5 = (both_true _ _ h6).0 in
    let h4 = (both_true _ _ h5).0 in
    let h3 = (both_true _ _ h4).0 in
    let h2 = (both_true _ _ h3).0 in
    let first = (both_true (d.optional || says_present c.presence) (int_le d.start_lo c.smin) h2).0 in
    second d.optional (says_present c.presence) mandatory first
  where
    second : (p q : Bool) → p ≡ false → (p || q) ≡ true → q ≡ true
    second true q h k = cc
    second false q h k = k

mandatory_there : (m : Data) (s : Region) (x : Itv) → IsRegionOf m s → x.0 < length m.intervals → is_optional m.intervals x ≡ false → presence.Present ≡ (bounds_of s x).presence
mandatory_there m s x of within none =
    let def : IntervalDef = get_or m.intervals x.0 no_def in
    let optional : def.optional ≡ false = sym (ap (passes (λ d. d.optional)) (slice_get-get_or m.intervals x.0 no_def within)) ∙ none in
    ready_present (bounds_of s x) (is_there def (bounds_of s x) (placewise-at is_narrowed m.intervals s.bounds x.0 no_def unknown of.bounds within) optional)

-- so the same are, where they are so of the optional intervals
presences_same : (m : Data) (r q : Region) → IsRegionOf m r → IsRegionOf m q → ((x : Itv) → is_of_walks m (cell.Presence x) ≡ true → (bounds_of r x).presence ≡ (bounds_of q x).presence) → SamePresences r q
presences_same m r q of also same x = by_case (nat_lt x.0 (length m.intervals)) refl
  where
    within : (n : ℕ) → nat_lt x.0 n ≡ true → x.0 < n
    within n h = grind (arith, nat_tests)

    past : (n : ℕ) → nat_lt x.0 n ≡ false → n ≤ x.0
    past n h = grind (arith, nat_tests)

    nothing : (s : Region) → IsRegionOf m s → length m.intervals ≤ x.0 → bounds_of s x ≡ unknown
    nothing s is h = get_or_past s.bounds x.0 unknown (omega (arith, h, as_many_bounds m s is))

    by_def : nat_lt x.0 (length m.intervals) ≡ true → (b : Bool) → is_optional m.intervals x ≡ b → (bounds_of r x).presence ≡ (bounds_of q x).presence
    by_def h true is = same x (true_both (nat_lt x.0 (length m.intervals)) (is_optional m.intervals x) h is)
    by_def h false is = let inside = within (length m.intervals) h in sym (mandatory_there m r x of inside is) ∙ mandatory_there m q x also inside is

    by_case : (b : Bool) → nat_lt x.0 (length m.intervals) ≡ b → (bounds_of r x).presence ≡ (bounds_of q x).presence
    by_case true h = by_def h (is_optional m.intervals x) refl
    by_case false h = ap (λ c. c.presence) (nothing r of (past (length m.intervals) h) ∙ sym (nothing q also (past (length m.intervals) h)))

-- and are so with one more
same_under : (r q : Region) (x : Itv) → x.0 < length r.bounds → x.0 < length q.bounds → SamePresences r q → SamePresences (with_guess (Present x) r) (with_guess (Present x) q)
same_under r q x here there same y = elim (same_or_not y.0 x.0) [
  | inl is ↦ subst (λ (n : ℕ). (bounds_of (with_guess (Present x) r) (itv_at n)).presence ≡ (bounds_of (with_guess (Present x) q) (itv_at n)).presence) (sym is)
      (ap (λ c. c.presence) (bounds_there x as_present r here) ∙ sym (ap (λ c. c.presence) (bounds_there x as_present q there)))
  | inr off ↦ ap (λ c. c.presence) (bounds_elsewhere x y as_present r off) ∙ same y ∙ sym (ap (λ c. c.presence) (bounds_elsewhere x y as_present q off))
]

below : (i n : ℕ) → nat_lt i n ≡ true → i < n
below i n h = grind (arith, nat_tests)

above : (i n : ℕ) → i < n → nat_lt i n ≡ true
above i n h = grind (arith, nat_tests)

pub walks_kept : (m : Data) (r q : Region) (b c : Option ℤ) → IsRegionOf m r → IsRegionOf m q → SamePresences r q → SameOrders m r q → quiet m 0 r b → quiet m 0 q c
walks_kept m r q b c of also same orders still = quiet_walks m q c plain each
  where
    plain : NoWalk m q c None
    plain is = ap (λ b. is_valid (Cycle is) && b) (sym (cycle_alike m (seen_at r b None) (seen_at q c None) is of also same orders)) ∙ walks_of m r b still None refl is

    size : length r.bounds ≡ length q.bounds
    size = sym (as_many_bounds m r of) ∙ as_many_bounds m q also

    each : (x : Itv) → admits q (Present x) ≡ true → NoWalk m q c (Some (Present x))
    each x free is =
        let two = both_true (nat_lt x.0 (length q.bounds)) (says_maybe (bounds_of q x).presence) free in
        let there = below x.0 (length q.bounds) two.0 in
        let here : x.0 < length r.bounds = omega (arith, there, size) in
        let before : admits r (Present x) ≡ true = true_both (nat_lt x.0 (length r.bounds)) (says_maybe (bounds_of r x).presence) (above x.0 (length r.bounds) here) (ap says_maybe (same x) ∙ two.1) in
        ap (λ b. is_valid (Cycle is) && b)
        (sym (cycle_alike m (seen_at r b (Some (Present x))) (seen_at q c (Some (Present x))) is (guess_stays (Present x) m r before of) (guess_stays (Present x) m q free also) (same_under r q x here there same) orders))
        ∙ walks_of m r b still (Some (Present x)) (true_both (admits r (Present x)) true before refl) is

-- a constraint's propagator
arcs_kept : (m : Data) (k : ℕ) (r q : Region) (b c : Option ℤ) → IsRegionOf m r → IsRegionOf m q → ((cell : CellName) → IsTrue (reads_cell (reads_of m k) cell) → SameCell cell r q) → quiet m (suc k) r b → quiet m (suc k) q c
arcs_kept m k r q b c of also cells still = quiet_kept refutes lists (λ n w. looks_after n (suc k) w) m (λ w. reads_of m k) r q b c looks among of also (λ w cell mine one. cells cell one) (λ w mine uses. absurd (true≢false (sym uses))) still
  where
    looks : (w : BasicWitness) → looks_after m (suc k) w ≡ true → LooksOnlyAt refutes m w (reads_of m k)
    looks w mine = let o = owned m k w mine in subst (λ (v : BasicWitness). LooksOnlyAt refutes m v (reads_of m k)) (sym o.is) (arc_looks m k o.way)

    among : (w : BasicWitness) (g : Guess) → looks_after m (suc k) w ≡ true → lists m w g ≡ true → is_among (reads_of m k).intervals (reads_of m k).pairs (topic g) ≡ true
    among w g mine listed = let o = owned m k w mine in asks_among m k o.way g (subst (λ (v : BasicWitness). lists m v g ≡ true) o.is listed)

pub unwatched : (m : Data) (k : ℕ) (r q : Region) (b c : Option ℤ) → IsRegionOf m r → IsRegionOf m q → ((cell : CellName) → IsTrue (watching m k cell) → SameCell cell r q) → (IsTrue (watching_best m k) → b ≡ c) → quiet m k r b → quiet m k q c
unwatched m zero r q b c of also cells best still = walks_kept m r q b c of also (presences_same m r q of also (λ x here. cells (cell.Presence x) here)) (λ p listed x y. cells (cell.Order p x y) listed) still
unwatched m (suc k) r q b c of also cells best still = arcs_kept m k r q b c of also cells still
