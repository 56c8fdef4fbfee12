use Rattle.logtext.proofs.Rows.{order_read}
use Rattle.logtext.proofs.solution.read_order.Goals as goal

pub returns : goal.returns
returns c = order_read c.args.words.now c.take_count.new.words c.read_ids.new.words c.in-Some.count c.read_ids.result c.in-Some.ensures.0 c.in-Some.ensures.1 c.read_ids.ensures
