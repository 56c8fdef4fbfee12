use Rattle.std.proofs.Common.{rules}
use Rattle.wake_levels.proofs.Eaching.{each_one}
use Rattle.wake_levels.proofs.levels.WakeLevels.wake_home.Goals as goal

pub returns : goal.returns
returns c = each_one c.args.k _ c.args.self.now c.wake.new.self c.wake.ensures (search rules)
