-- What a search may have written: lines that step, by limits on nodes and restarts, of which each is well put.
use Rattle.std.specs.Prelude.{◌≡◌, ◌⊎◌, ℕ, ◌+◌, ◌<◌, ◌≤◌, ℤ, List, [], ◌∷◌, Option, Some, None, Ok}
use Rattle.sched_model.specs.Data.{Data}
use Rattle.region.specs.declared.types.Guess.{Guess}
use Rattle.region.specs.Cells.{Region}
use Rattle.kernel.specs.declared.types.Line.TheVariants.{Derive, Fail, Split, Sol, Restart}
use Rattle.kernel.specs.Agenda.{first_in}
use Rattle.kernel.specs.Refuting.{refutes_with}
use Rattle.kernel.specs.Steps.{LogState, opening, best_of, restarts_in}
use Rattle.logtext.specs.Extra.{log_refutes}
use Rattle.logtext.specs.Logs.{PlainLine, IsPlainLog}
use Rattle.restart_rules.specs.Restarts.{Limits, MeetsRestartRule}
use Rattle.engine.specs.Runs.{cap_at}
use Rattle.propagators.specs.Quiet.{IsQuietRegion}
use Rattle.prop_energy.specs.Full.{HasNoOverload}
use Rattle.solver.specs.Cuts.{IsCut, plain_step}

-- a split of a region at whose node n lines derived: on a bound it cuts at the middle, and it comes only where nothing is left to
-- derive and no capacity is overloaded, or where as many lines derived as one run of the engine may put
pub record SplitsWell (m : Data) (best : Option ℤ) (n : ℕ) (r : Region) (g : Guess) : Type 0 where
  pub cuts : IsCut r g
  pub spent : IsQuietRegion m r best ⊎ (n ≡ cap_at r)
  pub full : HasNoOverload m r ⊎ (n ≡ cap_at r)

-- a line of the node whose region this is, at which n lines derived before it: one that derives is one of at most as many
abbrev pub IsWellPut : Data → Option ℤ → ℕ → PlainLine → Option Region → Type 0
IsWellPut m best n (Derive g w) (Some r) = n < cap_at r
IsWellPut m best n (Split g) (Some r) = SplitsWell m best n r g
IsWellPut m best n (Fail w) (Some r) = Unit {0}
IsWellPut m best n (Sol a) (Some r) = Unit {0}
IsWellPut m best n Restart (Some r) = Unit {0}
IsWellPut m best n line None = Unit {0}

-- how many lines derived at the node that is open after a line; every line but those ends its node
abbrev pub derived_after : PlainLine → ℕ → ℕ
derived_after (Derive g w) n = n + 1
derived_after (Fail w) n = 0
derived_after (Split g) n = 0
derived_after (Sol a) n = 0
derived_after Restart n = 0

-- from this state on, at whose node n lines derived, each of these lines is well put
abbrev pub WellPutFrom : Data → ℕ → LogState → List PlainLine → Type 0
WellPutFrom m n s [] = Unit {0}
WellPutFrom m n s (line ∷ lines) = IsWellPut m (best_of s.found) n line (first_in s.current s.waiting) × ((t : LogState) → plain_step m line s ≡ Ok t → WellPutFrom m (derived_after line n) t lines)

abbrev pub derived_in : ℕ → List PlainLine → ℕ
derived_in n [] = n
derived_in n (line ∷ lines) = derived_in (derived_after line n) lines

-- lines that a search may have written by these limits: they step one after another from the opening state to this one, no more
-- nodes than the limit were opened, and each line is well put; they begin anew exactly where the restart rule says, and as often
-- as they may at most
pub record IsWritten (m : Data) (limits : Limits) (lines : List PlainLine) (s : LogState) : Type 0 where
  pub log : IsPlainLog m lines s
  pub few : s.nodes ≤ limits.nodes
  pub well : WellPutFrom m 0 (opening m) lines
  pub restarts : MeetsRestartRule (refutes_with log_refutes) m limits lines
  pub seldom : restarts_in lines ≤ limits.restarts
