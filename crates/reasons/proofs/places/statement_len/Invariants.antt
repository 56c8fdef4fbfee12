use Rattle.std.proofs.Common.{◌≡◌, drop}
use Rattle.reasons.specs.Explained.{length_from, statement_len}
use Rattle.reasons.proofs.places.statement_len.Given as goal

abbrev pub invariant-loop-k : goal.invariant-loop-k
invariant-loop-k l = length_from l.spot l.k (drop l.k l.text) ≡ statement_len l.text
