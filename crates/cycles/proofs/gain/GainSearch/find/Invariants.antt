use Rattle.std.proofs.Common.{Bool, length}
use Rattle.cycles.specs.code.Search.{IsSearch, IsShort, IsBehind}
use Rattle.cycles.proofs.gain.GainSearch.find.Given as goal

abbrev pub invariant-loop-r : goal.invariant-loop-r
invariant-loop-r l = record {
  search : IsSearch l.arcs (length l.first) l.self.search;
  short : IsShort (length l.first) l.self.search;
  behind : (b : Bool) → IsBehind l.arcs b l.r 0 l.self.search;
}
