use Rattle.cycles.specs.code.Ways.{IsReading}
use Rattle.cycles.proofs.search.Search.arcs_between.Given as goal

abbrev pub invariant-loop-walk : goal.invariant-loop-walk
invariant-loop-walk l = IsReading l.arcs l.self.nodes l.n l.from l.to l.walk l.y

abbrev pub decreases-loop-walk : goal.decreases-loop-walk
decreases-loop-walk l = l.y
