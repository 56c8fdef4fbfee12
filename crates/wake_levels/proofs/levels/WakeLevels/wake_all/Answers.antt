use Rattle.std.proofs.Common.{◌∙◌}
use Rattle.wake_levels.proofs.Eaching.{woken_more}
use Rattle.wake_levels.proofs.levels.WakeLevels.wake_all.Goals as goal

pub loop-k-preserved : goal.loop-k-preserved
loop-k-preserved c =
    let now = c.wake_home.ensures in
    let i = c.loop-k.invariant in
    record { below = now.below ∙ i.below; count = now.count ∙ i.count; kept = λ j h. now.kept j (i.kept j h); all = woken_more c.loop-k.k c.loop-k.self c.wake_home.new.self now i.all }
