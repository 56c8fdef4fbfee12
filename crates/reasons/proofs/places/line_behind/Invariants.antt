use Rattle.std.proofs.Common.{◌≡◌, ◌≤◌, ◌+◌, drop}
use Rattle.reasons.specs.Explained.{line_from}
use Rattle.reasons.proofs.places.line_behind.Given as goal

abbrev pub invariant-loop-b : goal.invariant-loop-b
invariant-loop-b l = record {
  same : line_from l.line (drop l.b-index l.bytes) ≡ line_from 1 l.bytes;
  few : l.line ≤ l.b-index + 1;
}
