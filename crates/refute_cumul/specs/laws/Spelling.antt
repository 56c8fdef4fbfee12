-- The numbers of valid witnesses are few and small, and tell them apart.
use Rattle.std.specs.Prelude.{◌≡◌, ◌^◌, ◌<◌, pos, IsTrue, [], ◌∷◌, length}
use Rattle.std.proofs.Common.{refl, arith}
use Rattle.base_laws.specs.laws.Truth.{three_true}
use Rattle.sched_model.specs.Bounds.{is_small, is_number}
use Rattle.sched_model.specs.Data.{Data}
use Rattle.region.specs.Looks.{Seen}
use Rattle.region.specs.code.Spelled.{AreSmall}
use Rattle.region.specs.laws.Lists.{both_true}
use Rattle.region.specs.laws.Spelled.{no_more, one_more, one_signed}
use Rattle.refute_cumul.specs.declared.witness.CumulWitness.{CumulWitness}
use Rattle.refute_cumul.specs.declared.witness.CumulWitness.TheVariants.{Point}
use Rattle.refute_cumul.specs.Witness.{numbers_of, is_valid}
use Rattle.refute_cumul.specs.OnCumul.{refutes, row_of}

pub few_numbers : (w : CumulWitness) → IsTrue (is_valid w) → length (numbers_of w) < 2 ^ 32
few_numbers (Point c t u) h = omega arith

pub small_numbers : (w : CumulWitness) → IsTrue (is_valid w) → AreSmall (numbers_of w)
small_numbers (Point c t u) h =
    let e = three_true (is_number c) (is_small t) (is_number u) h in
    one_more 0 (pos c ∷ t ∷ pos u ∷ []) refl (one_more c (t ∷ pos u ∷ []) e.0 (one_signed t (pos u ∷ []) e.1 (one_more u [] e.2 no_more)))

pub told_apart : (v w : CumulWitness) → IsTrue (is_valid v) → IsTrue (is_valid w) → numbers_of v ≡ numbers_of w → v ≡ w
told_apart (Point c t u) (Point c' t' u') hv hw same = cc

pub refuting_valid : (m : Data) (l : Seen) (w : CumulWitness) → IsTrue (refutes m l w) → IsTrue (is_valid w)
refuting_valid m l w h = (both_true (is_valid w) (row_of m l w) h).0
