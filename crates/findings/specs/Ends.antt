-- Guesses at the ends of cells: where a propagator asks whether a witness refutes.
use Rattle.std.specs.Prelude.{Bool, true, ◌&&◌, Option}
use Rattle.std.specs.Ordering.{int_eq}
use Rattle.sched_model.specs.Words.{passes_if_any}
use Rattle.region.specs.declared.types.Bounds.{Bounds}
use Rattle.region.specs.declared.types.Claim.{Claim}
use Rattle.region.specs.declared.types.Claim.TheVariants.{Present, Absent, StartLe, StartGe, EndLe, EndGe}
use Rattle.region.specs.declared.types.Topic.{Topic}
use Rattle.region.specs.declared.types.Topic.TheVariants.{One, Two}
use Rattle.region.specs.declared.types.Guess.{Guess}
use Rattle.region.specs.Cells.{Region, bounds_of}
use Rattle.region.specs.Guesses.{admits, topic}

-- a presence, or the narrowest bound that the cell still has
abbrev pub is_end_at : Claim → Bounds → Bool
is_end_at Present c = true
is_end_at Absent c = true
is_end_at (StartLe t) c = int_eq t c.smin
is_end_at (StartGe t) c = int_eq t c.smax
is_end_at (EndLe t) c = int_eq t c.emin
is_end_at (EndGe t) c = int_eq t c.emax

abbrev pub is_end : Region → Topic → Bool
is_end r (One x c) = is_end_at c (bounds_of r x)
is_end r (Two p x y) = true

abbrev pub is_open_end : Region → Guess → Bool
is_open_end r g = admits r g && is_end r (topic g)

-- what is asked of a witness: no guess, or an open end guess that is listed
abbrev pub is_asked : (Guess → Bool) → Region → Option Guess → Bool
is_asked lists r guess = passes_if_any (λ g. lists g && is_open_end r g) guess
