-- What is never valid and never refutes meets every law.
use Rattle.std.specs.Prelude.{◌≡◌, ◌<◌, ◌^◌, length, IsTrue}
use Rattle.sched_model.specs.Data.{Data}
use Rattle.sched_model.specs.Valid.{IsValid}
use Rattle.region.specs.Looks.{Seen, IsRegionOf, HasNoneOf}
use Rattle.region.specs.code.Spelled.{AreSmall}
use Rattle.kernel.specs.declared.no_extra.NoWitness.{NoWitness}
use Rattle.kernel.specs.NoExtra.{numbers_of, is_valid, refutes_none, names_none}

pub few_lem : (w : NoWitness) → IsTrue (is_valid w) → length (numbers_of w) < 2 ^ 32
few_lem w h = cc

pub small_lem : (w : NoWitness) → IsTrue (is_valid w) → AreSmall (numbers_of w)
small_lem w h = cc

pub told_apart_lem : (v w : NoWitness) → IsTrue (is_valid v) → IsTrue (is_valid w) → numbers_of v ≡ numbers_of w → v ≡ w
told_apart_lem v w h k same = cc

pub valid_lem : (m : Data) (l : Seen) (w : NoWitness) → IsTrue (refutes_none m l w) → IsTrue (is_valid w)
valid_lem m l w h = h

pub sound_lem : (m : Data) (l : Seen) (w : NoWitness) → IsValid m → IsRegionOf m l.region → IsTrue (refutes_none m l w) → HasNoneOf m (names_none w) l
sound_lem m l w valid of h = cc
