use Rattle.logtext.specs.Spelling.{order_words}
use Rattle.logtext.proofs.Spaced.{SoFar}
use Rattle.logtext.proofs.writer.LogWriter.put_orders.Given as goal

abbrev pub invariant-loop-order : goal.invariant-loop-order
invariant-loop-order g l = SoFar order_words l.orders l.order-index l.initial.self l.self (g.D.Desk.state l.initial.desk) (g.D.Desk.state l.desk)
