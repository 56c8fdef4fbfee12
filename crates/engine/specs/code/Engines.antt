-- What contracts see of an engine, and when it is calm.
use Rattle.std.specs.Prelude.{◌≡◌, ℕ, ◌<◌, ℤ, false, IsTrue, Option}
use Rattle.iqueue.specs.code.Queue.{is_in}
use Rattle.sched_model.specs.Data.{Data}
use Rattle.region.specs.declared.types.CellName.{CellName}
use Rattle.region.specs.Cells.{Region}
use Rattle.wake_levels.specs.code.Waking.{Waking, is_awake}
use Rattle.engine.specs.declared.propagator.Propagator.{Ghosts}
use Rattle.engine.specs.code.Watching.{Watching, watchers_of}

pub record EngineValue (P : Type 0) : Type 0 where
  pub propagators : P
  pub watching : Watching
  pub waking : Waking

-- made for a model: its propagators are, there are as many as may be awake, and whoever watches is listed
pub record IsFor {P : Type 0} (p : Ghosts P) (m : Data) (e : EngineValue P) : Type 0 where
  pub of : p.is_of e.propagators m
  pub below : e.waking.below ≡ p.size m
  pub cells : (k : ℕ) (c : CellName) → k < p.size m → IsTrue (p.watching m k c) → IsTrue (is_in k (watchers_of e.watching c))
  pub best : (k : ℕ) → k < p.size m → IsTrue (p.watching_best m k) → IsTrue (is_in k e.watching.by_best)

abbrev pub AreQuiet : {P : Type 0} → Ghosts P → Data → Region → Option ℤ → Type 0
AreQuiet p m r best = (k : ℕ) → k < p.size m → p.quiet m k r best

-- whoever isn't awake is quiet
abbrev pub IsCalm : {P : Type 0} → Ghosts P → Data → Region → Option ℤ → EngineValue P → Type 0
IsCalm p m r best e = (k : ℕ) → k < p.size m → is_awake e.waking k ≡ false → p.quiet m k r best

abbrev pub AreAwake : {P : Type 0} → Ghosts P → Data → EngineValue P → Type 0
AreAwake p m e = (k : ℕ) → k < p.size m → IsTrue (is_awake e.waking k)

abbrev pub NoneAwake : {P : Type 0} → Ghosts P → Data → EngineValue P → Type 0
NoneAwake p m e = (k : ℕ) → k < p.size m → is_awake e.waking k ≡ false
