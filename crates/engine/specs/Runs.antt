-- What a run of the engine says.
use Rattle.std.specs.Prelude.{◌≡◌, ◌⊎◌, ℕ, ◌*◌, ◌<◌, ◌≤◌, ℤ, false, IsTrue, List, [], ◌∷◌, ◌++◌, length, Option, None}
use Rattle.sched_model.specs.Data.{Data}
use Rattle.region.specs.declared.types.Guess.{Guess}
use Rattle.region.specs.Cells.{Region, is_settled, cell_count}
use Rattle.region.specs.Looks.{seen_at}
use Rattle.kernel.specs.declared.types.Witness.{Witness}
use Rattle.kernel.specs.declared.types.Line.TheVariants.{Derive}
use Rattle.kernel.specs.declared.no_extra.NoWitness.{NoWitness}
use Rattle.kernel.specs.Derives.{Derives, IsDerived}
use Rattle.engine.specs.declared.lines.Lines.{Ghosts}
use Rattle.engine.specs.declared.stops.Stop.{Stop}
use Rattle.engine.specs.declared.stops.Stop.TheVariants.{Quiet, Failed, Capped}
use Rattle.engine.specs.Plain.{Plain, refutes_plain}

-- at most so many lines are put in one run
abbrev pub cap_at : Region → ℕ
cap_at r = 16 * cell_count r

-- n lines were put, and they lead from the region before to the region now
pub record Led {L : Type 0} (l : Ghosts L) (m : Data) (best : Option ℤ) (n : ℕ) (lines_before lines_now : L) (before now : Region) : Type 0 where
  pub lines : List Plain
  pub put : l.puts lines_before lines lines_now
  pub count : length lines ≡ n
  pub derive : Derives refutes_plain m best before lines now

-- why a run ended, but for the count of lines
abbrev pub Ends : Type 0 → Data → Option ℤ → Region → Stop → Type 0
Ends quiet m best r Quiet = quiet
Ends quiet m best r (Failed w) = IsTrue (refutes_plain m (seen_at r best None) w)
Ends quiet m best r Capped = Unit {0}

-- capped is a run exactly where it put as many lines as it may, and the region isn't settled
abbrev pub Counts : ℕ → Region → Stop → Type 0
Counts n r Capped = (n ≡ cap_at r) × (is_settled r ≡ false)
Counts n r Quiet = (n < cap_at r) ⊎ ((n ≡ cap_at r) × IsTrue (is_settled r))
Counts n r (Failed w) = (n < cap_at r) ⊎ ((n ≡ cap_at r) × IsTrue (is_settled r))

pub record Ran {L : Type 0} (l : Ghosts L) (quiet : Type 0) (m : Data) (best : Option ℤ) (lines_before lines_now : L) (before now : Region) (stop : Stop) : Type 0 where
  pub n : ℕ
  pub led : Led l m best n lines_before lines_now before now
  pub counts : Counts n now stop
  pub ends : Ends quiet m best now stop

-- a run that broke off: lines lead to the region now, and a further one that derives there may have been put, or its put failed;
-- with it they are at most so many
pub data Broke {L : Type 0} (l : Ghosts L) (m : Data) (best : Option ℤ) (most : ℕ) (lines_before lines_now : L) (before now : Region) : Type 0 where
  held : {lines : List Plain} → l.puts lines_before lines lines_now → Derives refutes_plain m best before lines now → length lines ≤ most → Broke l m best most lines_before lines_now before now
  further : {lines : List Plain} {g : Guess} {w : Witness NoWitness} → l.puts lines_before (lines ++ Derive g w ∷ []) lines_now → Derives refutes_plain m best before lines now
      → IsDerived refutes_plain m best now g w → length lines < most → Broke l m best most lines_before lines_now before now
  broken : {lines : List Plain} {g : Guess} {w : Witness NoWitness} → l.breaks lines_before lines (Derive g w) lines_now → Derives refutes_plain m best before lines now
      → IsDerived refutes_plain m best now g w → length lines < most → Broke l m best most lines_before lines_now before now
