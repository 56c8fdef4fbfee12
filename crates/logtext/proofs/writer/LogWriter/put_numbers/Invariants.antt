use Rattle.std.proofs.Common.{◌-◌, ◌≤◌, drop}
use Rattle.logtext.specs.code.Reads.{moment_words}
use Rattle.logtext.proofs.Spaced.{SoFar}
use Rattle.logtext.proofs.writer.LogWriter.put_numbers.Given as goal

abbrev pub invariant-loop-i : goal.invariant-loop-i
invariant-loop-i g l = record {
  above : l.from ≤ l.i;
  put : SoFar moment_words (drop l.from (g.W.Numbers.numbers l.w)) (l.i - l.from) l.initial.self l.self (g.D.Desk.state l.initial.desk) (g.D.Desk.state l.desk);
}
