-- What the bytes of a log show of the best value, and what that means.
use Rattle.std.specs.Prelude.{◌≡◌, ℤ, IsTrue, List, Some, IfSome}
use Rattle.sched_model.specs.declared.types.Assignment.{Assignment}
use Rattle.sched_model.specs.Data.{Data}
use Rattle.sched_model.specs.Solution.{IsSolution, is_better}
use Rattle.textline.specs.Lines.{Bytes}
use Rattle.kernel.specs.Steps.{LogState, best_of}
use Rattle.kernel.specs.Promises.{HasValue}
use Rattle.logtext.specs.declared.version.Version.{Version}
use Rattle.logtext.specs.Logs.{PlainLine, IsPlainLog, plain_log, MayHold}
use Rattle.bound_report.specs.declared.bounding.Bounded.{Bounded}
use Rattle.bound_report.specs.Bound.{IsBound}

-- the bytes are a whole log of the model, which leads to a state of this bound, this best value and this many nodes
pub record ShowsBound (m : Data) (bytes : Bytes) (b : Bounded) : Type 0 where
  pub version : Version
  pub lines : List PlainLine
  pub suits : MayHold version lines
  pub state : LogState
  pub log : IsPlainLog m lines state
  pub text : bytes ≡ plain_log version lines
  pub bound : IsBound m state b.bound
  pub best : b.best ≡ best_of state.found
  pub nodes : b.nodes ≡ state.nodes

-- no solution is better than one of this value would be
abbrev pub IsUnbeaten : Data → ℤ → Type 0
IsUnbeaten m z = (a : Assignment) → IsSolution m a → IsTrue (is_better m (Some z) a) → ⊥

-- no solution is better than the bound, and one has the best value
pub record BoundMeans (m : Data) (b : Bounded) : Type 0 where
  pub unbeaten : IfSome b.bound (IsUnbeaten m)
  pub reached : IfSome b.best (HasValue m)
