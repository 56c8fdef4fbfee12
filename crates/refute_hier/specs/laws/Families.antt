-- The witnesses of one constraint refute a look exactly where one of its rows does, and those of another kind at most SEQREL.
use Rattle.std.specs.Prelude.{◌≡◌, ℕ, Bool, true, false, List, Some, slice_get}
use Rattle.std.proofs.Common.{refl, sym, ap, ◌∙◌}
use Rattle.std.proofs.lemmas.Bool.{true≢false}
use Rattle.sched_base.specs.declared.ids.Itv.{Itv}
use Rattle.sched_model.specs.declared.types.Constraint.{Constraint}
use Rattle.sched_model.specs.declared.types.Constraint.TheVariants as constraint
use Rattle.sched_model.specs.Words.{passes}
use Rattle.sched_model.specs.Data.{Data}
use Rattle.region.specs.Cells.{Region}
use Rattle.region.specs.Looks.{Seen}
use Rattle.region.specs.laws.Lists.{both_true, true_both}
use Rattle.refute_hier.specs.declared.witness.HierWitness.{HierWitness}
use Rattle.refute_hier.specs.declared.witness.HierWitness.TheVariants as witness
use Rattle.refute_hier.specs.declared.family.Kind.{Kind}
use Rattle.refute_hier.specs.Witness.{is_valid, constraint_of}
use Rattle.refute_hier.specs.Span.{span_of}
use Rattle.refute_hier.specs.Alt.{alt_of}
use Rattle.refute_hier.specs.Sync.{sync_of}
use Rattle.refute_hier.specs.SeqRel.{seqrel_of}
use Rattle.refute_hier.specs.Hier.{refutes, row_of}
use Rattle.refute_hier.specs.code.Rows.{as_constraint, is_family, some_refutes, IsWitness}
use Rattle.refute_hier.specs.laws.Rows.{row_is, some_if_row}

-- where no row refutes, no witness does
pub none_refutes : (m : Data) (l : Seen) (kind : Kind) (a : Itv) (bs : List Itv) (c : ℕ) (w : HierWitness) → slice_get m.constraints c ≡ Some (as_constraint kind a bs) → constraint_of w ≡ c
    → some_refutes kind l.region a bs ≡ false → refutes m l w ≡ false
none_refutes m l kind a bs c w is names none = by_case (refutes m l w) refl
  where
    by_case : (b : Bool) → refutes m l w ≡ b → refutes m l w ≡ false
    by_case false h = h
    by_case true h =
        let row = (both_true (is_valid w) (row_of m l w) h).1 in
        absurd (true≢false (sym (some_if_row kind l.region a bs w (sym (row_is m l kind a bs c w is names) ∙ row)) ∙ none))

pub witness_refutes : (m : Data) (l : Seen) (kind : Kind) (a : Itv) (bs : List Itv) (c : ℕ) (w : HierWitness) → slice_get m.constraints c ≡ Some (as_constraint kind a bs) → IsWitness kind l.region a bs c w → refutes m l w ≡ true
witness_refutes m l kind a bs c w is one = true_both (is_valid w) (row_of m l w) one.valid (row_is m l kind a bs c w is one.constraint ∙ one.row)

-- a constraint that is none on an interval and its parts has no witness of these kinds
pub no_span : (r : Region) (k i : ℕ) (d : Constraint) → is_family d ≡ false → span_of r k i d ≡ false
no_span r k i (constraint.Span a bs) h = cc
no_span r k i (constraint.Alternative a bs n) h = cc
no_span r k i (constraint.Synchronize a bs) h = cc
no_span r k i other h = refl

pub no_alt : (r : Region) (k i j : ℕ) (d : Constraint) → is_family d ≡ false → alt_of r k i j d ≡ false
no_alt r k i j (constraint.Span a bs) h = cc
no_alt r k i j (constraint.Alternative a bs n) h = cc
no_alt r k i j (constraint.Synchronize a bs) h = cc
no_alt r k i j other h = refl

pub no_sync : (r : Region) (i : ℕ) (d : Constraint) → is_family d ≡ false → sync_of r i d ≡ false
no_sync r i (constraint.Span a bs) h = cc
no_sync r i (constraint.Alternative a bs n) h = cc
no_sync r i (constraint.Synchronize a bs) h = cc
no_sync r i other h = refl

no_row : (m : Data) (l : Seen) (d : Constraint) (w : HierWitness) → slice_get m.constraints (constraint_of w) ≡ Some d → is_family d ≡ false → ((x : Itv) → seqrel_of l.region x d ≡ false) → row_of m l w ≡ false
no_row m l d (witness.Span n k i) is none nobody = ap (passes (span_of l.region k i)) is ∙ no_span l.region k i d none
no_row m l d (witness.Alt n k i j) is none nobody = ap (passes (alt_of l.region k i j)) is ∙ no_alt l.region k i j d none
no_row m l d (witness.Sync n i) is none nobody = ap (passes (sync_of l.region i)) is ∙ no_sync l.region i d none
no_row m l d (witness.SeqRel n x) is none nobody = ap (passes (seqrel_of l.region (record { 0 = x }))) is ∙ nobody (record { 0 = x })
