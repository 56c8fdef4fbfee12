use Rattle.std.specs.Prelude.{codes}
use Rattle.kernel.specs.Fit.{is_fit_order}
use Rattle.logtext.specs.Spelling.{order_words}
use Rattle.logtext.specs.code.Reads.{BeginsWith}
use Rattle.logtext.specs.laws.Told.{order_told, order_starts}
use Rattle.logtext.proofs.Rows.{row_fails}
use Rattle.logtext.proofs.solution.read_orders.Goals as goal

pub returns-in-Err : goal.returns-in-Err
returns-in-Err c =
    row_fails order_words is_fit_order (BeginsWith (codes "o")) order_told order_starts c.loop-order.orders c.args.words.now c.loop-order.words c.next_order.new.words c.next_order.new.words c.in-Err.fault c.loop-order.invariant.fit c.loop-order.invariant.same c.in-Err.ensures
