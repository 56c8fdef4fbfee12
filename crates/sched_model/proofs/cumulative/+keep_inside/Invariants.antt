use Rattle.std.proofs.Common.{◌-ℤ◌, nat_abs}
use Rattle.sched_model.proofs.cumulative.+keep_inside.Given as goal

abbrev pub decreases-keep_inside : goal.decreases-keep_inside
decreases-keep_inside l = nat_abs (l.span.to -ℤ l.span.from)
