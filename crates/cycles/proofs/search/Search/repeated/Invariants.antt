use Rattle.cycles.specs.code.Ways.{IsMarked}
use Rattle.cycles.proofs.search.Search.repeated.Given as goal

abbrev pub invariant-loop-node : goal.invariant-loop-node
invariant-loop-node l = IsMarked l.self.nodes l.n l.k l.seen.items l.y

abbrev pub decreases-loop-node : goal.decreases-loop-node
decreases-loop-node l = l.y
