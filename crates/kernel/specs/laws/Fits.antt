-- What the steps of a log are of is fit: guesses that are open in a region of a valid model, and witnesses that refute.
use Rattle.std.specs.Prelude.{◌≡◌, ℕ, zero, suc, ◌<◌, ◌≤◌, ℤ, Bool, true, false, ◌&&◌, IsTrue, Option, Some, List, [], ◌∷◌, length, nat_le, nat_lt, int_le, int_lt}
use Rattle.std.proofs.Common.{refl, arith, get_or}
use Rattle.std.specs.List.{list_all}
use Rattle.std.proofs.lemmas.Int.{ints}
use Rattle.std.proofs.lemmas.Bool.{ltb-true, leb-true}
use Rattle.std.proofs.lemmas.Bool.Decides.{nat_tests}
use Rattle.sched_base.specs.declared.ids.Itv.{Itv}
use Rattle.sched_base.specs.declared.ids.Seq.{Seq}
use Rattle.sched_model.specs.declared.types.IntervalDef.{IntervalDef}
use Rattle.sched_model.specs.Words.{placewise}
use Rattle.sched_model.specs.Data.{Data}
use Rattle.sched_model.specs.Valid.{IsValid, is_small, is_interval_def, is_span_of_moments}
use Rattle.region.specs.declared.types.Bounds.{Bounds}
use Rattle.region.specs.declared.types.Guess.{Guess}
use Rattle.region.specs.declared.types.Guess.TheVariants.{Present, Absent, StartLe, StartGe, EndLe, EndGe, Before}
use Rattle.region.specs.declared.types.Claim.{Claim}
use Rattle.region.specs.declared.types.Claim.TheVariants as claim
use Rattle.region.specs.declared.types.Topic.TheVariants.{One, Two}
use Rattle.region.specs.Cells.{Region, unknown, bounds_of}
use Rattle.region.specs.Claims.{is_open_at}
use Rattle.region.specs.Guesses.{topic, admits_topic, admits, may_be_there, is_ready, splits}
use Rattle.region.specs.Looks.{Seen, Refuting, IsRegionOf, seen_at, is_narrowed}
use Rattle.region.specs.laws.Lists.{both_true, true_both, placewise-length}
use Rattle.region.specs.laws.Narrowing.{as_many}
use Rattle.refute_basic.specs.laws.Fits.{few_of}
use Rattle.refute_basic.specs.laws.Spelling.{refuting_valid}
use Rattle.refute_hier.specs.laws.Spelling.{refuting_valid as hier_valid}
use Rattle.refute_seq.specs.laws.Spelling.{refuting_valid as seq_valid}
use Rattle.refute_cumul.specs.laws.Spelling.{refuting_valid as cumul_valid}
use Rattle.refute_state.specs.laws.Spelling.{refuting_valid as state_valid}
use Rattle.kernel.specs.declared.types.Witness.{Witness}
use Rattle.kernel.specs.declared.types.Witness.TheVariants as witness
use Rattle.kernel.specs.declared.types.Witness.TheVariants.{Basic, Hier, Extra}
use Rattle.kernel.specs.declared.types.Line.TheVariants.{Derive}
use Rattle.kernel.specs.Refuting.{refutes_with}
use Rattle.kernel.specs.Derives.{IsDerived}
use Rattle.kernel.specs.Fit.{is_count, is_id, is_fit, is_fit_guess, is_fit_witness}

-- a guess that is open in a region of a valid model is fit
listed_def : (ds : List IntervalDef) (bs : List Bounds) (n : ℕ) → list_all is_interval_def ds ≡ true → placewise is_narrowed ds bs ≡ true → n < length bs
    → (d : IntervalDef) × (is_interval_def d ≡ true) × (is_narrowed d (get_or bs n unknown) ≡ true)
listed_def [] [] n defs narrowed within = absurd (omega (arith, within))
listed_def [] (b ∷ bs) n defs narrowed within = cc
listed_def (d ∷ ds) [] n defs narrowed within = absurd (omega (arith, within))
listed_def (d ∷ ds) (b ∷ bs) zero defs narrowed within = (d, (both_true _ _ defs).0, (both_true (is_narrowed d b) (placewise is_narrowed ds bs) narrowed).0)
listed_def (d ∷ ds) (b ∷ bs) (suc n) defs narrowed within = listed_def ds bs n (both_true (is_interval_def d) (list_all is_interval_def ds) defs).1 (both_true (is_narrowed d b) (placewise is_narrowed ds bs) narrowed).1 (omega (arith, within))

-- the bounds of moments are small
record IsWithin (c : Bounds) : Type 0 where
  smin : is_small c.smin ≡ true
  smax : is_small c.smax ≡ true
  emin : is_small c.emin ≡ true
  emax : is_small c.emax ≡ true

small_span : (lo hi a b : ℤ) → is_span_of_moments lo hi ≡ true → int_le lo a ≡ true → int_le a b ≡ true → int_le b hi ≡ true → (is_small a ≡ true) × (is_small b ≡ true)
small_span lo hi a b span from order to = (grind (arith, ints), grind (arith, ints))

bounds_within : (d : IntervalDef) (c : Bounds) → is_interval_def d ≡ true → is_narrowed d c ≡ true → IsWithin c
bounds_within d c def h =
    let spans = (both_true _ _ (both_true _ _ def).0).0 in
    let two = both_true (is_span_of_moments d.start_lo d.start_hi) (is_span_of_moments d.end_lo d.end_hi) spans in
    let h6 = (both_true _ _ (both_true _ _ h).0).0 in
    let h5 = both_true _ (int_le c.emax d.end_hi) h6 in
    let h4 = both_true _ (int_le c.emin c.emax) h5.0 in
    let h3 = both_true _ (int_le d.end_lo c.emin) h4.0 in
    let h2 = both_true _ (int_le c.smax d.start_hi) h3.0 in
    let h1 = both_true _ (int_le c.smin c.smax) h2.0 in
    let h0 = both_true _ (int_le d.start_lo c.smin) h1.0 in
    let s = small_span d.start_lo d.start_hi c.smin c.smax two.0 h0.1 h1.1 h2.1 in
    let e = small_span d.end_lo d.end_hi c.emin c.emax two.1 h3.1 h4.1 h5.1 in
    record { smin = s.0; smax = s.1; emin = e.0; emax = e.1 }

between_small : (a b t : ℤ) (p : Bool) → is_small a ≡ true → is_small b ≡ true → (p && int_le a t && int_lt t b) ≡ true → is_small t ≡ true
between_small a b t true h k is = grind (arith, ints)
between_small a b t false h k is = cc

after_small : (a b t : ℤ) (p : Bool) → is_small a ≡ true → is_small b ≡ true → (p && int_lt a t && int_le t b) ≡ true → is_small t ≡ true
after_small a b t true h k is = grind (arith, ints)
after_small a b t false h k is = cc

abbrev is_fit_claim : Claim → Bool
is_fit_claim claim.Present = true
is_fit_claim claim.Absent = true
is_fit_claim (claim.StartLe t) = is_small t
is_fit_claim (claim.StartGe t) = is_small t
is_fit_claim (claim.EndLe t) = is_small t
is_fit_claim (claim.EndGe t) = is_small t

fit_open : (k : Claim) (c : Bounds) → is_open_at k c ≡ true → IsWithin c → is_fit_claim k ≡ true
fit_open claim.Present c h w = refl
fit_open claim.Absent c h w = refl
fit_open (claim.StartLe t) c h w = between_small c.smin c.smax t _ w.smin w.smax h
fit_open (claim.StartGe t) c h w = after_small c.smin c.smax t _ w.smin w.smax h
fit_open (claim.EndLe t) c h w = between_small c.emin c.emax t _ w.emin w.emax h
fit_open (claim.EndGe t) c h w = after_small c.emin c.emax t _ w.emin w.emax h

pub few_intervals : (m : Data) → IsValid m → length m.intervals ≤ 2000
few_intervals m valid = (few_of m valid).0

pub few_lists : (m : Data) → IsValid m → (length m.sequences ≤ 200) × (length m.states ≤ 200)
few_lists m valid =
    let h7 = (both_true _ _ valid.limits).0 in
    let h6 = (both_true _ (nat_le (length m.constraints) 20000) (both_true _ _ h7).0).0 in
    let h5 = both_true _ (nat_le (length m.states) 200) h6 in
    let h3 = (both_true _ _ (both_true _ _ h5.0).0).0 in
    (leb-true _ _ (both_true (nat_le (length m.intervals) 2000) (nat_le (length m.sequences) 200) h3).1, leb-true _ _ h5.1)

id_of : (n k : ℕ) → n < k → k ≤ 2000 → is_count n ≡ true
id_of n k h few = grind (arith, nat_tests)

id_in : (m : Data) (r : Region) (x : Itv) → IsValid m → IsRegionOf m r → nat_lt x.0 (length r.bounds) ≡ true → is_id x ≡ true
id_in m r x valid of h = id_of x.0 (length r.bounds) (ltb-true _ _ h) (omega (arith, few_intervals m valid, placewise-length is_narrowed m.intervals r.bounds of.bounds))

seq_in : (m : Data) (r : Region) (p : Seq) → IsValid m → IsRegionOf m r → nat_lt p.0 (length r.orders) ≡ true → is_count p.0 ≡ true
seq_in m r p valid of h = id_of p.0 (length r.orders) (ltb-true _ _ h) (omega (arith, (few_lists m valid).0, as_many m r of))

fit_one : (m : Data) (r : Region) (x : Itv) (k : Claim) → IsValid m → IsRegionOf m r → admits_topic r (One x k) ≡ true → (is_id x ≡ true) × (is_fit_claim k ≡ true)
fit_one m r x k valid of h =
    let parts = both_true (nat_lt x.0 (length r.bounds)) (is_open_at k (bounds_of r x)) h in
    let def = listed_def m.intervals r.bounds x.0 valid.intervals of.bounds (ltb-true _ _ parts.0) in
    (id_in m r x valid of parts.0, fit_open k (bounds_of r x) parts.1 (bounds_within def.0 (bounds_of r x) def.1 def.2))

fit_bound : (m : Data) (r : Region) (x : Itv) (k : Claim) → IsValid m → IsRegionOf m r → admits_topic r (One x k) ≡ true → (is_id x && is_fit_claim k) ≡ true
fit_bound m r x k valid of h = let two = fit_one m r x k valid of h in true_both (is_id x) (is_fit_claim k) two.0 two.1

fit_order : (m : Data) (r : Region) (p : Seq) (x y : Itv) → IsValid m → IsRegionOf m r → admits_topic r (Two p x y) ≡ true → is_fit_guess (Before p x y) ≡ true
fit_order m r p x y valid of h =
    let last = both_true _ (may_be_there r y) h in
    let first = both_true _ (may_be_there r x) last.0 in
    let order = both_true (nat_lt p.0 (length r.orders)) _ first.0 in
    true_both _ (is_id y) (true_both (is_count p.0) (is_id x) (seq_in m r p valid of order.0) (id_in m r x valid of (both_true _ _ first.1).0)) (id_in m r y valid of (both_true _ _ last.1).0)

pub fit_admitted : (m : Data) (r : Region) (g : Guess) → IsValid m → IsRegionOf m r → admits_topic r (topic g) ≡ true → is_fit_guess g ≡ true
fit_admitted m r (Present x) valid of h = (fit_one m r x claim.Present valid of h).0
fit_admitted m r (Absent x) valid of h = (fit_one m r x claim.Absent valid of h).0
fit_admitted m r (StartLe x t) valid of h = fit_bound m r x (claim.StartLe t) valid of h
fit_admitted m r (StartGe x t) valid of h = fit_bound m r x (claim.StartGe t) valid of h
fit_admitted m r (EndLe x t) valid of h = fit_bound m r x (claim.EndLe t) valid of h
fit_admitted m r (EndGe x t) valid of h = fit_bound m r x (claim.EndGe t) valid of h
fit_admitted m r (Before p x y) valid of h = fit_order m r p x y valid of h

pub fit_splitting : (m : Data) (r : Region) (g : Guess) → IsValid m → IsRegionOf m r → splits r g ≡ true → is_fit_guess g ≡ true
fit_splitting m r g valid of h = fit_admitted m r g valid of (both_true (admits r g) (is_ready r (topic g)) h).0

-- a witness that refutes is fit, where the extra ones that refute are valid
pub fit_refuting : {W : Type 0} (extra : Refuting W) (valid : W → Bool) → ((m : Data) (l : Seen) (w : W) → IsTrue (extra m l w) → IsTrue (valid w))
    → (m : Data) (l : Seen) (w : Witness W) → refutes_with extra m l w ≡ true → is_fit_witness valid w ≡ true
fit_refuting extra valid each m l (Basic w) h = refuting_valid m l w h
fit_refuting extra valid each m l (Hier w) h = hier_valid m l w h
fit_refuting extra valid each m l (witness.Seq w) h = seq_valid m l w h
fit_refuting extra valid each m l (witness.Cumul w) h = cumul_valid m l w h
fit_refuting extra valid each m l (witness.State w) h = state_valid m l w h
fit_refuting extra valid each m l (Extra w) h = each m l w h

-- so a line that derives is fit
pub fit_derived : {W : Type 0} (extra : Refuting W) (valid : W → Bool) → ((m : Data) (l : Seen) (w : W) → IsTrue (extra m l w) → IsTrue (valid w))
    → (m : Data) (best : Option ℤ) (r : Region) (g : Guess) (w : Witness W) → IsValid m → IsRegionOf m r → IsDerived (refutes_with extra) m best r g w → is_fit valid (Derive g w) ≡ true
fit_derived extra valid each m best r g w is_one of derived =
    true_both (is_fit_guess g) (is_fit_witness valid w) (fit_admitted m r g is_one of derived.admitted) (fit_refuting extra valid each m (seen_at r best (Some g)) w derived.refuted)
