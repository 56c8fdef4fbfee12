-- What a search through the guesses at the ends of cells finds.
use Rattle.std.specs.Prelude.{◌≡◌, Bool, false, IsTrue, Option, Some}
use Rattle.sched_base.specs.declared.ids.Itv.{Itv}
use Rattle.sched_model.specs.Data.{same}
use Rattle.region.specs.declared.types.Topic.{Topic}
use Rattle.region.specs.declared.types.Topic.TheVariants.{One, Two}
use Rattle.region.specs.declared.types.Guess.{Guess}
use Rattle.region.specs.Cells.{Region}
use Rattle.region.specs.Guesses.{topic}
use Rattle.findings.specs.declared.finding.Pair.{Pair}
use Rattle.findings.specs.Ends.{is_open_end}
use Rattle.findings.specs.code.Reads.{is_pair}

-- it is on this interval, or on the order of this pair
abbrev pub is_on : Itv → Topic → Bool
is_on x (One z c) = same z x
is_on x (Two p y z) = false

abbrev pub is_of_pair : Pair → Topic → Bool
is_of_pair q (One x c) = false
is_of_pair q (Two p x y) = is_pair p x y q

-- an open end guess that is wanted, under which the region is refuted
pub record IsRefutedEnd (test : Option Guess → Bool) (r : Region) (wants : Topic → Bool) (g : Guess) : Type 0 where
  pub wanted : IsTrue (wants (topic g))
  pub open_end : IsTrue (is_open_end r g)
  pub refuted : IsTrue (test (Some g))

-- and that there is none
abbrev pub NoEndRefuted : (Option Guess → Bool) → Region → (Topic → Bool) → Type 0
NoEndRefuted test r wants = (g : Guess) → IsTrue (wants (topic g)) → IsTrue (is_open_end r g) → test (Some g) ≡ false
