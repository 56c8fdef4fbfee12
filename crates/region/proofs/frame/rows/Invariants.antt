use Rattle.std.proofs.Common.{◌≡◌, ◌+◌, ◌*◌, ◌≤◌, map, take}
use Rattle.region.specs.code.Flat.{AreRows, pairs_in}
use Rattle.region.proofs.frame.rows.Given as goal

abbrev pub invariant-loop-d : goal.invariant-loop-d
invariant-loop-d l = record {
  members : map (λ row. row.members) l.rows.items ≡ map (λ d. d.members) (take l.d-index l.sequences);
  rows : AreRows (5 * l.n) l.rows.items;
  cells : l.start ≡ 5 * l.n + pairs_in (map (λ row. row.members) l.rows.items);
  few : l.start ≤ 10000 + 125000 * l.d-index;
}
