use Rattle.cycles.specs.code.Begun.{IsBegun}
use Rattle.cycles.proofs.search.Search.begin.Given as goal

abbrev pub invariant-loop-v : goal.invariant-loop-v
invariant-loop-v l = IsBegun l.self-inside.nodes.items l.self-inside.last.items l.v
