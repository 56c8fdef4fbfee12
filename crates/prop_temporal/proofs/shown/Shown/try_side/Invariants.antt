use Rattle.std.proofs.Common.{take}
use Rattle.prop_temporal.specs.code.Shown.{TriesAll, IsOfSideOf}
use Rattle.prop_temporal.proofs.shown.Shown.try_side.Given as goal

abbrev pub invariant-loop-y : goal.invariant-loop-y
invariant-loop-y l = TriesAll l.model l.look.region (IsOfSideOf l.behind l.u l.x.0 (take l.y-index l.members)) l.initial.self l.self
