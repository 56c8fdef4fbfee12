-- When a propagator is quiet, and what a finding is.
use Rattle.std.specs.Prelude.{◌≡◌, ℤ, Bool, false, IsTrue, Option, Some}
use Rattle.sched_model.specs.Words.{passes_if_any}
use Rattle.sched_model.specs.Data.{Data}
use Rattle.region.specs.declared.types.Guess.{Guess}
use Rattle.region.specs.Cells.{Region}
use Rattle.region.specs.Guesses.{admits}
use Rattle.region.specs.Looks.{Refuting, seen_at}
use Rattle.region.specs.Tight.{is_tight}
use Rattle.findings.specs.declared.finding.Finding.{Finding}
use Rattle.findings.specs.Ends.{is_asked}

-- none of these witnesses refutes the region, nor refutes it under an open end guess that its row lists
pub record IsQuiet {W : Type 0} (refutes : Refuting W) (lists : Data → W → Guess → Bool) (mine : Data → W → Bool) (m : Data) (r : Region) (best : Option ℤ) : Type 0 where
  pub unrefuted : (w : W) (guess : Option Guess) → IsTrue (mine m w) → IsTrue (is_asked (lists m w) r guess) → refutes m (seen_at r best guess) w ≡ false

-- `test` tells whether the region is refuted under a guess: the guess is admitted, the region refuted under it, and not
-- under the next weaker one
pub record IsFound (test : Option Guess → Bool) (r : Region) (guess : Option Guess) : Type 0 where
  pub admitted : IsTrue (passes_if_any (admits r) guess)
  pub refuted : IsTrue (test guess)
  pub tight : IsTrue (passes_if_any (is_tight (λ h. test (Some h)) r) guess)

-- a witness and a guess that a propagator may answer
abbrev pub IsFinding : {W : Type 0} → Refuting W → Data → Region → Option ℤ → Finding W → Type 0
IsFinding refutes m r best f = IsFound (λ guess. refutes m (seen_at r best guess) f.witness) r f.guess
