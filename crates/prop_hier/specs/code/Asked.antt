-- Which of some intervals of a constraint were asked about.
use Rattle.std.specs.Prelude.{◌≡◌, ℕ, ◌<◌, Bool, true, false, List, [], ◌∷◌, Option, Some, None, IsTrue, take}
use Rattle.sched_base.specs.declared.ids.Itv.{Itv}
use Rattle.sched_model.specs.Data.{has}
use Rattle.region.specs.declared.types.Guess.{Guess}
use Rattle.region.specs.Cells.{Region}
use Rattle.region.specs.Guesses.{topic}
use Rattle.findings.specs.Ends.{is_open_end}
use Rattle.findings.specs.code.Reads.{is_among}

-- nothing refutes the region as it stands, once one was asked, nor under a guess on one of the first
pub record AskedFirst (test : Option Guess → Bool) (r : Region) (xs : List Itv) (n : ℕ) : Type 0 where
  pub plain : 0 < n → test None ≡ false
  pub ends : (g : Guess) → is_among (take n xs) [] (topic g) ≡ true → is_open_end r g ≡ true → test (Some g) ≡ false

-- each is the interval or one of its parts
abbrev pub AreMembers : List Itv → Itv → List Itv → Type 0
AreMembers xs a bs = (x : Itv) → IsTrue (has xs x) → IsTrue (has (a ∷ bs) x)
