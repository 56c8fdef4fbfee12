use Rattle.std.proofs.Common.{take}
use Rattle.prop_temporal.specs.code.Shown.{TriesAll, IsOfOrderFrom}
use Rattle.prop_temporal.proofs.shown.Shown.try_order.Given as goal

abbrev pub invariant-loop-x : goal.invariant-loop-x
invariant-loop-x l = TriesAll l.model l.look.region (IsOfOrderFrom l.u (take l.x-index l.members)) l.initial.self l.self
