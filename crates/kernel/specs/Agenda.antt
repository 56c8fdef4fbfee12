-- The open regions: the current one, and those that wait.
use Rattle.std.specs.Prelude.{List, [], ◌∷◌, Option, Some, None}
use Rattle.region.specs.declared.types.Guess.{Guess}
use Rattle.region.specs.Cells.{Region}
use Rattle.region.specs.Guesses.{with_guess, with_fact}
use Rattle.kernel.specs.declared.agenda.Stage.{Stage}
use Rattle.kernel.specs.declared.agenda.Stage.TheVariants.{Current, Waiting, Done}

-- the current region, and those that wait
pub record Open : Type 0 where
  pub current : Option Region
  pub waiting : List Region

abbrev pub shown : Stage → Region → List Region → Open
shown Current r rs = record { current = Some r; waiting = rs }
shown Waiting r rs = record { current = None; waiting = r ∷ rs }
shown Done r rs = record { current = None; waiting = [] }

-- the current region, or else the first that waits
abbrev pub first_in : Option Region → List Region → Option Region
first_in (Some r) rs = Some r
first_in None (r ∷ rs) = Some r
first_in None [] = None

-- those that wait behind it
abbrev pub behind_in : Option Region → List Region → List Region
behind_in (Some r) rs = rs
behind_in None (r ∷ rs) = rs
behind_in None [] = []

abbrev pub first_of : Open → Option Region
first_of o = first_in o.current o.waiting

abbrev pub behind : Open → List Region
behind o = behind_in o.current o.waiting

-- the two parts of a split
abbrev pub parts_of : Guess → Option Region → List Region
parts_of g None = []
parts_of g (Some r) = with_guess g r ∷ with_fact g r ∷ []
