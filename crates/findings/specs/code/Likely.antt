-- The guess that is likely to refute.
use Rattle.region.specs.declared.types.Guess.{Guess}
use Rattle.region.specs.declared.types.Guess.TheVariants as guess
use Rattle.region.specs.Cells.{Region, bounds_of}
use Rattle.findings.specs.declared.likely.Likely.{Likely}
use Rattle.findings.specs.declared.likely.Likely.TheVariants.{StartsLater, EndsSooner, StartsSooner, EndsLater, StandsBehind}

-- at the end of its cell
abbrev pub end_guess : Region → Likely → Guess
end_guess r (StartsLater x) = guess.StartLe x (bounds_of r x).smin
end_guess r (EndsSooner x) = guess.EndGe x (bounds_of r x).emax
end_guess r (StartsSooner x) = guess.StartGe x (bounds_of r x).smax
end_guess r (EndsLater x) = guess.EndLe x (bounds_of r x).emin
end_guess r (StandsBehind q) = guess.Before q.sequence q.first q.second
