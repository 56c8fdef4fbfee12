use Rattle.logtext.specs.Spelling.{segment_words}
use Rattle.logtext.proofs.Spaced.{SoFar}
use Rattle.logtext.proofs.writer.LogWriter.put_segments.Given as goal

abbrev pub invariant-loop-segment : goal.invariant-loop-segment
invariant-loop-segment g l = SoFar segment_words l.segments l.segment-index l.initial.self l.self (g.D.Desk.state l.initial.desk) (g.D.Desk.state l.desk)
