use Rattle.std.proofs.Common.{◌≡◌, ◌<◌, length}
use Rattle.wake_levels.specs.code.Waking.{weight}
use Rattle.wake_levels.specs.code.Calm.{IsCalm}
use Rattle.engine.proofs.turns.find.Given as goal

abbrev pub invariant-awake : goal.invariant-awake
invariant-awake g l = record {
  of : g.P.Propagator.is_of l.propagators l.model;
  below : l.levels.below ≡ l.initial.levels.below;
  within : l.late < length l.levels.levels;
  calm : IsCalm (g.P.Propagator.size l.model) (λ k. g.P.Propagator.quiet l.model k l.region.region l.best) l.levels;
}

abbrev pub decreases-awake : goal.decreases-awake
decreases-awake g l = weight l.levels.levels
