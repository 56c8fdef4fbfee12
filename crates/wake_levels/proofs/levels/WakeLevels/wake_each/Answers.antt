use Rattle.std.proofs.Common.{rules}
use Rattle.wake_levels.proofs.Eaching.{wakes_more}
use Rattle.wake_levels.proofs.levels.WakeLevels.wake_each.Goals as goal

pub loop-k-preserved : goal.loop-k-preserved
loop-k-preserved c = wakes_more c.args.ks.now c.loop-k.k-index _ c.args.self.now c.loop-k.self c.wake_home.new.self c.loop-k.invariant (search rules) (search rules) c.wake_home.ensures
