-- The numbers of valid witnesses are few and small, and tell them apart.
use Rattle.std.specs.Prelude.{◌≡◌, ◌^◌, ◌<◌, pos, IsTrue, [], ◌∷◌, length}
use Rattle.std.proofs.Common.{refl, arith}
use Rattle.base_laws.specs.laws.Truth.{three_true, four_true}
use Rattle.sched_model.specs.Data.{Data}
use Rattle.region.specs.Looks.{Seen}
use Rattle.region.specs.code.Spelled.{AreSmall}
use Rattle.region.specs.laws.Lists.{both_true}
use Rattle.region.specs.laws.Spelled.{no_more, one_more}
use Rattle.refute_hier.specs.declared.witness.HierWitness.{HierWitness}
use Rattle.refute_hier.specs.declared.witness.HierWitness.TheVariants.{Span, Alt, Sync, SeqRel}
use Rattle.refute_hier.specs.Witness.{numbers_of, is_valid}
use Rattle.refute_hier.specs.Hier.{refutes, row_of}
use Rattle.sched_model.specs.Bounds.{is_number}

pub few_numbers : (w : HierWitness) → IsTrue (is_valid w) → length (numbers_of w) < 2 ^ 32
few_numbers (Span c r i) h = omega arith
few_numbers (Alt c r i j) h = omega arith
few_numbers (Sync c i) h = omega arith
few_numbers (SeqRel c x) h = omega arith

pub small_numbers : (w : HierWitness) → IsTrue (is_valid w) → AreSmall (numbers_of w)
small_numbers (Span c r i) h =
    let e = three_true (is_number c) (is_number r) (is_number i) h in
    one_more 0 (pos c ∷ pos r ∷ pos i ∷ []) refl (one_more c (pos r ∷ pos i ∷ []) e.0 (one_more r (pos i ∷ []) e.1 (one_more i [] e.2 no_more)))
small_numbers (Alt c r i j) h =
    let e = four_true (is_number c) (is_number r) (is_number i) (is_number j) h in
    one_more 1 (pos c ∷ pos r ∷ pos i ∷ pos j ∷ []) refl (one_more c (pos r ∷ pos i ∷ pos j ∷ []) e.0 (one_more r (pos i ∷ pos j ∷ []) e.1 (one_more i (pos j ∷ []) e.2 (one_more j [] e.3 no_more))))
small_numbers (Sync c i) h =
    let e = both_true (is_number c) (is_number i) h in
    one_more 2 (pos c ∷ pos i ∷ []) refl (one_more c (pos i ∷ []) e.0 (one_more i [] e.1 no_more))
small_numbers (SeqRel c x) h =
    let e = both_true (is_number c) (is_number x) h in
    one_more 3 (pos c ∷ pos x ∷ []) refl (one_more c (pos x ∷ []) e.0 (one_more x [] e.1 no_more))

pub told_apart : (v w : HierWitness) → IsTrue (is_valid v) → IsTrue (is_valid w) → numbers_of v ≡ numbers_of w → v ≡ w
told_apart (Span c r i) (Span c' r' i') hv hw same = cc
told_apart (Span c r i) (Alt c' r' i' j') hv hw same = cc
told_apart (Span c r i) (Sync c' i') hv hw same = cc
told_apart (Span c r i) (SeqRel c' x') hv hw same = cc
told_apart (Alt c r i j) (Span c' r' i') hv hw same = cc
told_apart (Alt c r i j) (Alt c' r' i' j') hv hw same = cc
told_apart (Alt c r i j) (Sync c' i') hv hw same = cc
told_apart (Alt c r i j) (SeqRel c' x') hv hw same = cc
told_apart (Sync c i) (Span c' r' i') hv hw same = cc
told_apart (Sync c i) (Alt c' r' i' j') hv hw same = cc
told_apart (Sync c i) (Sync c' i') hv hw same = cc
told_apart (Sync c i) (SeqRel c' x') hv hw same = cc
told_apart (SeqRel c x) (Span c' r' i') hv hw same = cc
told_apart (SeqRel c x) (Alt c' r' i' j') hv hw same = cc
told_apart (SeqRel c x) (Sync c' i') hv hw same = cc
told_apart (SeqRel c x) (SeqRel c' x') hv hw same = cc

pub refuting_valid : (m : Data) (l : Seen) (w : HierWitness) → IsTrue (refutes m l w) → IsTrue (is_valid w)
refuting_valid m l w h = (both_true (is_valid w) (row_of m l w) h).0
