use Rattle.std.proofs.Common.{[], ◌∷◌}
use Rattle.logtext.specs.Spelling.{member_word}
use Rattle.logtext.proofs.Spaced.{SoFar}
use Rattle.logtext.proofs.writer.LogWriter.put_members.Given as goal

abbrev pub invariant-loop-x : goal.invariant-loop-x
invariant-loop-x g l = SoFar (λ x. member_word x ∷ []) l.members l.x-index l.initial.self l.self (g.D.Desk.state l.initial.desk) (g.D.Desk.state l.desk)
