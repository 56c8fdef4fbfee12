use Rattle.std.proofs.Common.{◌≡◌, drop}
use Rattle.refute_basic.specs.Named.{named_along}
use Rattle.conflict.specs.code.Marks.{marked}
use Rattle.conflict.proofs.used.Used.mark_arcs.Given as goal

abbrev pub invariant-loop-arc : goal.invariant-loop-arc
invariant-loop-arc l = marked (named_along (drop l.arc-index l.arcs)) l.self ≡ marked (named_along l.arcs) l.initial.self
