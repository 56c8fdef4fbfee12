-- Where the splits of a log cut.
use Rattle.std.specs.Prelude.{ℤ, ◌+ℤ◌, ◌-ℤ◌, ◌≤ℤ◌, ◌<ℤ◌, pos}
use Rattle.sched_model.specs.Data.{Data}
use Rattle.region.specs.declared.types.Guess.{Guess}
use Rattle.region.specs.declared.types.Guess.TheVariants as guess
use Rattle.region.specs.Cells.{Region, bounds_of}
use Rattle.kernel.specs.Refuting.{refutes_with}
use Rattle.kernel.specs.Steps.{LogState, Outcome, step}
use Rattle.logtext.specs.Extra.{log_refutes}
use Rattle.logtext.specs.Logs.{PlainLine}

abbrev pub plain_step : Data → PlainLine → LogState → Outcome
plain_step m line s = step (refutes_with log_refutes) m line s

-- t is half of lo + hi, rounded down
pub record IsMiddle (lo hi t : ℤ) : Type 0 where
  pub below : (t +ℤ t) ≤ℤ (lo +ℤ hi)
  pub above : (lo +ℤ hi) <ℤ (t +ℤ t +ℤ pos 2)

-- A bound is cut at the middle t of what is open of it: one part has the moments up to t, the other those from t + 1 on,
-- and either may be the guess. A guess on a presence or on an order cuts no bound, and nothing is asked of it.
abbrev pub IsCut : Region → Guess → Type 0
IsCut r (guess.StartLe x t) = IsMiddle (bounds_of r x).smin (bounds_of r x).smax t
IsCut r (guess.StartGe x t) = IsMiddle (bounds_of r x).smin (bounds_of r x).smax (t -ℤ pos 1)
IsCut r (guess.EndLe x t) = IsMiddle (bounds_of r x).emin (bounds_of r x).emax t
IsCut r (guess.EndGe x t) = IsMiddle (bounds_of r x).emin (bounds_of r x).emax (t -ℤ pos 1)
IsCut r _ = Unit {0}
