use Rattle.std.proofs.Common.{◌≡◌, ◌+◌, ◌*◌, ◌^◌, ◌+ℤ◌, ◌≤ℤ◌, drop, map, neg_ℤ, pos, take}
use Rattle.std.specs.List.{list_all}
use Rattle.sched_model.specs.Words.{total}
use Rattle.sched_model.specs.Changes.{keeps_at, rise}
use Rattle.sched_model.proofs.changes.keep_each.Given as goal

abbrev pub invariant-loop-i : goal.invariant-loop-i
invariant-loop-i l = record {
  sum : l.level ≡ l.before +ℤ total (map rise (take l.i l.changes));
  from : neg_ℤ (pos (2 ^ 126 + 2 ^ 63 * l.i)) ≤ℤ l.level;
  to : l.level ≤ℤ pos (2 ^ 126 + 2 ^ 63 * l.i);
  rest : list_all (λ c. keeps_at l.a l.b.window l.b.lo l.b.hi l.before l.changes c.t) (drop l.i l.changes) ≡ list_all (λ c. keeps_at l.a l.b.window l.b.lo l.b.hi l.before l.changes c.t) l.changes;
}
