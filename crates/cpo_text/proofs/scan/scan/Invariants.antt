use Rattle.std.proofs.Common.{◌≡◌, ◌+◌, ◌≤◌, ◌-◌, length, drop}
use Rattle.cpo_text.specs.Runs.{ended}
use Rattle.cpo_text.specs.code.Lexing.{rest, tokens_from}
use Rattle.cpo_text.proofs.scan.scan.Given as goal

abbrev pub invariant-loop-at : goal.invariant-loop-at
invariant-loop-at l = record {
  reach : rest (drop l.at l.text) ≡ rest l.text;
  count : l.ended + ended (tokens_from l.at (drop l.at l.text)) ≡ ended (tokens_from 0 l.text);
  within : l.at ≤ length l.text;
  few : l.ended ≤ l.at;
}

abbrev pub decreases-loop-at : goal.decreases-loop-at
decreases-loop-at l = length l.text - l.at
