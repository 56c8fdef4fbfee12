-- The constraints that the log of a model without a solution uses.
use Rattle.std.specs.Prelude.{◌≡◌, List, Option, Some, None}
use Rattle.sched_base.specs.declared.ids.Con.{Con}
use Rattle.sched_model.specs.declared.types.Assignment.{Assignment}
use Rattle.sched_model.specs.declared.types.Verdict.TheVariants.{Infeasible}
use Rattle.sched_model.specs.Data.{Data}
use Rattle.sched_model.specs.Solution.{Meets}
use Rattle.textline.specs.Lines.{Bytes}
use Rattle.kernel.specs.Named.{named_with}
use Rattle.kernel.specs.Steps.{LogState, verdict_of}
use Rattle.kernel.specs.Used.{IsUsed, used_in}
use Rattle.logtext.specs.Extra.{log_named}
use Rattle.logtext.specs.declared.version.Version.{Version}
use Rattle.logtext.specs.Logs.{PlainLine, IsPlainLog, plain_log, MayHold}

-- those that the lines' witnesses name, where the log shows that there is no solution; none where it shows something else
abbrev pub IsCore : Data → List PlainLine → LogState → Option (List Con) → Type 0
IsCore m lines s None = verdict_of s ≡ Infeasible → ⊥
IsCore m lines s (Some cs) = (verdict_of s ≡ Infeasible) × IsUsed m (used_in (named_with log_named) lines) cs

-- the bytes are a whole log of the model, and its lines use these constraints
pub record ShowsCore (m : Data) (bytes : Bytes) (core : Option (List Con)) : Type 0 where
  pub version : Version
  pub lines : List PlainLine
  pub suits : MayHold version lines
  pub state : LogState
  pub log : IsPlainLog m lines state
  pub text : bytes ≡ plain_log version lines
  pub uses : IsCore m lines state core

-- no assignment of the domain makes all of these constraints hold
abbrev pub CantAllHold : Data → List Con → Type 0
CantAllHold m cs = (a : Assignment) → Meets m cs a → ⊥
