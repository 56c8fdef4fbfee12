use Rattle.logtext.specs.Spelling.{slot_words}
use Rattle.logtext.proofs.Spaced.{SoFar}
use Rattle.logtext.proofs.writer.LogWriter.put_slots.Given as goal

abbrev pub invariant-loop-slot : goal.invariant-loop-slot
invariant-loop-slot g l = SoFar slot_words l.slots l.slot-index l.initial.self l.self (g.D.Desk.state l.initial.desk) (g.D.Desk.state l.desk)
