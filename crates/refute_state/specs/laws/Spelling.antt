-- The numbers of valid witnesses are few and small, and tell them apart.
use Rattle.std.specs.Prelude.{◌≡◌, ◌^◌, ◌<◌, pos, IsTrue, [], ◌∷◌, length}
use Rattle.std.proofs.Common.{refl, arith}
use Rattle.base_laws.specs.laws.Truth.{three_true}
use Rattle.sched_model.specs.Data.{Data}
use Rattle.sched_model.specs.Bounds.{is_number}
use Rattle.region.specs.Looks.{Seen}
use Rattle.region.specs.code.Spelled.{AreSmall}
use Rattle.region.specs.laws.Lists.{both_true}
use Rattle.region.specs.laws.Spelled.{no_more, one_more}
use Rattle.refute_state.specs.declared.witness.StateWitness.{StateWitness}
use Rattle.refute_state.specs.declared.witness.StateWitness.TheVariants.{State, State3}
use Rattle.refute_state.specs.Witness.{numbers_of, is_valid}
use Rattle.refute_state.specs.OnState.{refutes, row_of}

pub few_numbers : (w : StateWitness) → IsTrue (is_valid w) → length (numbers_of w) < 2 ^ 32
few_numbers (State c1 c2) h = omega arith
few_numbers (State3 c1 c2 c3) h = omega arith

pub small_numbers : (w : StateWitness) → IsTrue (is_valid w) → AreSmall (numbers_of w)
small_numbers (State c1 c2) h =
    let e = both_true (is_number c1) (is_number c2) h in
    one_more 0 (pos c1 ∷ pos c2 ∷ []) refl (one_more c1 (pos c2 ∷ []) e.0 (one_more c2 [] e.1 no_more))
small_numbers (State3 c1 c2 c3) h =
    let e = three_true (is_number c1) (is_number c2) (is_number c3) h in
    one_more 1 (pos c1 ∷ pos c2 ∷ pos c3 ∷ []) refl (one_more c1 (pos c2 ∷ pos c3 ∷ []) e.0 (one_more c2 (pos c3 ∷ []) e.1 (one_more c3 [] e.2 no_more)))

pub told_apart : (v w : StateWitness) → IsTrue (is_valid v) → IsTrue (is_valid w) → numbers_of v ≡ numbers_of w → v ≡ w
told_apart (State c1 c2) (State d1 d2) hv hw same = cc
told_apart (State c1 c2) (State3 d1 d2 d3) hv hw same = cc
told_apart (State3 c1 c2 c3) (State d1 d2) hv hw same = cc
told_apart (State3 c1 c2 c3) (State3 d1 d2 d3) hv hw same = cc

pub refuting_valid : (m : Data) (l : Seen) (w : StateWitness) → IsTrue (refutes m l w) → IsTrue (is_valid w)
refuting_valid m l w h = (both_true (is_valid w) (row_of m l w) h).0
