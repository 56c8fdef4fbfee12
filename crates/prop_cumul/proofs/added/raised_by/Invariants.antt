use Rattle.std.proofs.Common.{◌-ℤ◌}
use Rattle.std.specs.Prelude.{nat_abs}
use Rattle.prop_cumul.proofs.Raising.{IsLowUntil}
use Rattle.prop_cumul.proofs.added.raised_by.Given as goal

abbrev pub invariant-loop-a : goal.invariant-loop-a
invariant-loop-a g l = IsLowUntil l.profile.levels (g.A.Added.added l.more) l.from l.a l.limit

abbrev pub decreases-loop-a : goal.decreases-loop-a
decreases-loop-a g l = nat_abs (l.to -ℤ l.a)
