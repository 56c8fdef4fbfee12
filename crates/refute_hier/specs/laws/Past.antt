-- A witness whose numbers name nothing refutes nothing.
use Rattle.std.specs.Prelude.{◌≡◌, ℕ, ◌<◌, ◌≤◌, Bool, true, false, if◌then◌else◌, length, nat_eq}
use Rattle.std.proofs.Common.{arith}
use Rattle.std.proofs.lemmas.Bool.Decides.{nat_tests}
use Rattle.sched_model.specs.Data.{Data}
use Rattle.region.specs.Looks.{Seen}
use Rattle.refute_hier.specs.declared.witness.HierWitness.{HierWitness}
use Rattle.refute_hier.specs.declared.witness.HierWitness.TheVariants.{Span, Alt, Sync, SeqRel}
use Rattle.refute_hier.specs.Witness.{is_valid, constraint_of}
use Rattle.refute_hier.specs.Span.{span_of, span_row}
use Rattle.refute_hier.specs.Alt.{alt_of, alt_row}
use Rattle.refute_hier.specs.Sync.{sync_of, sync_row}
use Rattle.refute_hier.specs.SeqRel.{seqrel_of, seqrel_row}
use Rattle.refute_hier.specs.Hier.{refutes}
use Rattle.base_laws.specs.laws.Truth.{never_both}
use Rattle.sched_model.specs.laws.Words.{none_past}

pub names_nothing : (m : Data) (l : Seen) (w : HierWitness) → length m.constraints ≤ constraint_of w → refutes m l w ≡ false
names_nothing m l (Span c r i) h = never_both (is_valid (Span c r i)) (span_row m l c r i) (none_past (span_of l.region r i) m.constraints c h)
names_nothing m l (Alt c r i j) h = never_both (is_valid (Alt c r i j)) (alt_row m l c r i j) (none_past (alt_of l.region r i j) m.constraints c h)
names_nothing m l (Sync c i) h = never_both (is_valid (Sync c i)) (sync_row m l c i) (none_past (sync_of l.region i) m.constraints c h)
names_nothing m l (SeqRel c x) h = never_both (is_valid (SeqRel c x)) (seqrel_row m l c x) (none_past (seqrel_of l.region (record { 0 = x })) m.constraints c h)

-- no row of a place past the parts refutes
neither : (b p q : Bool) → p ≡ false → q ≡ false → (if b then p else q) ≡ false
neither true p q h k = h
neither false p q h k = k

not_first : (i : ℕ) → 0 < i → nat_eq i 0 ≡ false
not_first i h = grind (arith, nat_tests)
