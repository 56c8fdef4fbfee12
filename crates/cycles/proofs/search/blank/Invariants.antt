use Rattle.std.proofs.Common.{◌≡◌, ℕ, length, get_or}
use Rattle.cycles.proofs.search.blank.Given as goal

abbrev pub invariant-loop : goal.invariant-loop
invariant-loop l = (length l.seen.items ≡ l.counter) × ((v : ℕ) → get_or l.seen.items v 0 ≡ 0)
