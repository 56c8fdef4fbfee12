use Rattle.std.proofs.Common.{◌≡◌, ◌≤◌, ◌+◌, drop}
use Rattle.reasons.specs.Explained.{column_from}
use Rattle.reasons.proofs.places.column_behind.Given as goal

abbrev pub invariant-loop-b : goal.invariant-loop-b
invariant-loop-b l = record {
  same : column_from l.column (drop l.b-index l.bytes) ≡ column_from 1 l.bytes;
  few : l.column ≤ l.b-index + 1;
}
