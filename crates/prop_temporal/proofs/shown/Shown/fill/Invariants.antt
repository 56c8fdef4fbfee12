use Rattle.std.proofs.Common.{length}
use Rattle.prop_temporal.specs.code.Shown.{AreShown, HasTried}
use Rattle.prop_temporal.proofs.shown.Shown.fill.Given as goal

abbrev pub invariant-loop-u : goal.invariant-loop-u
invariant-loop-u l = AreShown l.model l.look.region l.self × HasTried l.model l.look.region l.u 0 l.self

abbrev pub invariant-loop-x : goal.invariant-loop-x
invariant-loop-x l = AreShown l.model l.look.region l.self × HasTried l.model l.look.region (length l.model.constraints) l.x l.self
