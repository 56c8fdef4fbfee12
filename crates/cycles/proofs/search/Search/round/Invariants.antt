use Rattle.std.proofs.Common.{◌≡◌, ℕ, ◌<◌, false, None, Some, length}
use Rattle.cycles.specs.code.Walks.{arc_at}
use Rattle.cycles.specs.code.Search.{IsSearch, IsShort, IsBehind, is_late, turn_of}
use Rattle.cycles.proofs.search.Search.round.Given as goal

abbrev pub invariant-loop-turn : goal.invariant-loop-turn
invariant-loop-turn l = record {
  search : IsSearch l.arcs l.n l.self;
  short : IsShort l.n l.self;
  behind : (k : ℕ) → IsBehind l.arcs l.backwards k 0 l.initial.self → IsBehind l.arcs l.backwards k l.turn l.self;
  none : l.newest ≡ None → (j : ℕ) → j < length l.arcs → turn_of l.backwards (length l.arcs) j < l.turn → is_late l.self (arc_at l.arcs j) ≡ false;
  some : (k : ℕ) → l.newest ≡ Some k → k < length l.self.nodes;
}
