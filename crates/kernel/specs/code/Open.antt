-- The open regions of a log, gone through one after another.
use Rattle.std.specs.Prelude.{ℤ, List, [], ◌∷◌, ◌++◌, Option, Some, None, option_map, option_to_list, All}
use Rattle.sched_model.specs.Data.{Data}
use Rattle.region.specs.Cells.{Region}
use Rattle.region.specs.Looks.{Seen, IsRegionOf}
use Rattle.kernel.specs.declared.open_regions.Going.{Going}
use Rattle.kernel.specs.declared.open_regions.Going.TheVariants.{Ahead, InFront, Done}

-- the region in front, those behind it, and the best value of the log
pub record OpenRegions : Type 0 where
  pub front : Option Region
  pub behind : List Region
  pub best : Option ℤ

abbrev pub shown_open : Going → Region → List Region → Option ℤ → OpenRegions
shown_open Ahead r rs best = record { front = None; behind = r ∷ rs; best = best }
shown_open InFront r rs best = record { front = Some r; behind = rs; best = best }
shown_open Done r rs best = record { front = None; behind = []; best = best }

abbrev pub next_of : List Region → Option Region
next_of [] = None
next_of (r ∷ rs) = Some r

abbrev pub rest_of : List Region → List Region
rest_of [] = []
rest_of (r ∷ rs) = rs

-- the next of them comes to the front
abbrev pub advanced : OpenRegions → OpenRegions
advanced o = record { front = next_of o.behind; behind = rest_of o.behind; best = o.best }

-- the region in front as a look without a guess
abbrev pub in_front : OpenRegions → Option Seen
in_front o = option_map (λ r. record { region = r; best = o.best }) o.front

abbrev pub AreOpenOf : Data → OpenRegions → Type 0
AreOpenOf m o = All (IsRegionOf m) (option_to_list o.front ++ o.behind)
