use Rattle.std.proofs.Common.{◌≡◌, ℕ, ◌+◌, ◌≤◌, ◌++◌, length, take, List}
use Rattle.cpo_text.specs.declared.text.Reading.{Reading}
use Rattle.cpo_text.specs.Runs.{runs}
use Rattle.cpo_text.specs.code.Lexing.{tokens_from}
use Rattle.cpo_text.specs.code.Places.{left}
use Rattle.cpo_text.specs.Reads.{AreReadings, told_limit, told}
use Rattle.cpo_text.proofs.whole.statements.Given as goal

-- whatever readings the runs ahead have, as many as there is room for, with those so far they are the readings that are told
abbrev pub invariant-loop-token : goal.invariant-loop-token
invariant-loop-token l = record {
  room : length l.readings ≤ told_limit;
  rest : (n : ℕ) (more : List Reading) → length l.readings + n ≡ told_limit → AreReadings (take n (runs (left l.here))) more → AreReadings (told (runs (tokens_from 0 l.text))) (l.readings ++ more);
}

abbrev pub decreases-loop-token : goal.decreases-loop-token
decreases-loop-token l = length (left l.here)
