use Rattle.logtext.proofs.Digits.{BytesSoFar}
use Rattle.logtext.proofs.writer.LogWriter.put_digits.Given as goal

abbrev pub invariant-loop-digit : goal.invariant-loop-digit
invariant-loop-digit g l = BytesSoFar l.digits l.digit-index l.initial.self l.self (g.D.Desk.state l.initial.desk) (g.D.Desk.state l.desk)
