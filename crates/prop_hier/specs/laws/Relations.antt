-- The propagator of a constraint that is none on an interval and its parts is quiet exactly where the witnesses of its
-- relation are silent.
use Rattle.std.specs.Prelude.{◌≡◌, ℕ, ℤ, Bool, true, false, Option, Some, slice_get}
use Rattle.std.proofs.Common.{refl, sym, ap, subst, ◌∙◌}
use Rattle.base_laws.specs.laws.Truth.{never_both}
use Rattle.sched_base.specs.declared.ids.Itv.{Itv}
use Rattle.sched_model.specs.declared.types.Constraint.{Constraint}
use Rattle.sched_model.specs.Words.{passes}
use Rattle.sched_model.specs.Data.{Data}
use Rattle.region.specs.declared.types.Guess.{Guess}
use Rattle.region.specs.Cells.{Region}
use Rattle.region.specs.Guesses.{topic, looked_at}
use Rattle.region.specs.Looks.{IsRegionOf, seen_at}
use Rattle.region.specs.laws.Narrowing.{looked_stays}
use Rattle.findings.specs.Ends.{is_asked}
use Rattle.findings.specs.laws.Kept.{asked_admits, asked_more}
use Rattle.refute_hier.specs.declared.witness.HierWitness.{HierWitness}
use Rattle.refute_hier.specs.declared.witness.HierWitness.TheVariants.{Span, Alt, Sync, SeqRel}
use Rattle.refute_hier.specs.Witness.{is_valid, constraint_of}
use Rattle.refute_hier.specs.Span.{span_of, span_row}
use Rattle.refute_hier.specs.Alt.{alt_of, alt_row}
use Rattle.refute_hier.specs.Sync.{sync_of, sync_row}
use Rattle.refute_hier.specs.SeqRel.{seqrel_of}
use Rattle.refute_hier.specs.Hier.{refutes}
use Rattle.refute_hier.specs.Listed.{asks_related, lists}
use Rattle.refute_hier.specs.code.Rows.{is_family}
use Rattle.refute_hier.specs.laws.Families.{no_span, no_alt, no_sync}
use Rattle.prop_hier.specs.code.Related.{pairs_of, asks_pairs, AreSilent}
use Rattle.prop_hier.specs.code.Tables.{intervals_of}
use Rattle.prop_hier.specs.code.Tasks.{quiet}
use Rattle.prop_hier.specs.laws.Owners.{owned, owner}
use Rattle.prop_hier.specs.laws.Related.{asks_is, one_listed, none_related}

-- what the row of a witness of the relation lists
lists_is : (m : Data) (n : ℕ) (x : Itv) (d : Constraint) (g : Guess) → slice_get m.constraints n ≡ Some d → lists m (SeqRel n x.0) g ≡ asks_pairs (pairs_of d x) (topic g)
lists_is m n x d g is = ap (λ o. asks_related o x (topic g)) is ∙ asks_is d x (topic g)

silent_at : (m : Data) (c n : ℕ) (x : Itv) (r : Region) (best : Option ℤ) (d : Constraint) (guess : Option Guess) → IsRegionOf m r → n ≡ c → slice_get m.constraints n ≡ Some d → AreSilent m r best d c (intervals_of m (Some d)) → is_asked (lists m (SeqRel n x.0)) r guess ≡ true
    → (b : Bool) → seqrel_of (looked_at guess r) x d ≡ b → refutes m (seen_at r best guess) (SeqRel n x.0) ≡ false
silent_at m c n x r best d guess of names is silent asked false none = none_related m (seen_at r best guess) n x d is none
silent_at m c n x r best d guess of names is silent asked true h =
    subst (λ k. refutes m (seen_at r best guess) (SeqRel k x.0) ≡ false) (sym names)
    (silent x (one_listed m (looked_at guess r) d x (looked_stays guess m r (asked_admits (lists m (SeqRel n x.0)) r guess asked) of) h) guess
    (asked_more (lists m (SeqRel n x.0)) (λ g. asks_pairs (pairs_of d x) (topic g)) r guess (λ g listed. sym (lists_is m n x d g is) ∙ listed) asked))

pub quiet_related : (m : Data) (c : ℕ) (r : Region) (best : Option ℤ) (d : Constraint) → IsRegionOf m r → slice_get m.constraints c ≡ Some d → is_family d ≡ false → AreSilent m r best d c (intervals_of m (Some d)) → quiet m c r best
quiet_related m c r best d of is none silent = record { unrefuted = λ w guess mine asked. at w guess (sym (owned m c w mine)) asked }
  where
    at : (w : HierWitness) (guess : Option Guess) → constraint_of w ≡ c → is_asked (lists m w) r guess ≡ true → refutes m (seen_at r best guess) w ≡ false
    at (Span n k i) guess names asked = never_both (is_valid (Span n k i)) (span_row m (seen_at r best guess) n k i) (ap (passes (span_of (looked_at guess r) k i)) (ap (slice_get m.constraints) names ∙ is) ∙ no_span (looked_at guess r) k i d none)
    at (Alt n k i j) guess names asked = never_both (is_valid (Alt n k i j)) (alt_row m (seen_at r best guess) n k i j) (ap (passes (alt_of (looked_at guess r) k i j)) (ap (slice_get m.constraints) names ∙ is) ∙ no_alt (looked_at guess r) k i j d none)
    at (Sync n i) guess names asked = never_both (is_valid (Sync n i)) (sync_row m (seen_at r best guess) n i) (ap (passes (sync_of (looked_at guess r) i)) (ap (slice_get m.constraints) names ∙ is) ∙ no_sync (looked_at guess r) i d none)
    at (SeqRel n x) guess names asked = silent_at m c n (record { 0 = x }) r best d guess of names (ap (slice_get m.constraints) names ∙ is) silent asked (seqrel_of (looked_at guess r) (record { 0 = x }) d) refl

pub silent_related : (m : Data) (c : ℕ) (r : Region) (best : Option ℤ) (d : Constraint) → slice_get m.constraints c ≡ Some d → quiet m c r best → AreSilent m r best d c (intervals_of m (Some d))
silent_related m c r best d is still x listed guess asked =
    still.unrefuted (SeqRel c x.0) guess (owner m (SeqRel c x.0)) (asked_more (λ g. asks_pairs (pairs_of d x) (topic g)) (lists m (SeqRel c x.0)) r guess (λ g h. lists_is m c x d g is ∙ h) asked)
