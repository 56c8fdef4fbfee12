use Rattle.std.proofs.Common.{arith}
use Rattle.read_schedule.proofs.whole.Heads.{far_count}
use Rattle.read_schedule.proofs.header.is_node_count.Goals as goal

pub returns-then-n : goal.returns-then-n
returns-then-n c = far_count c.in-Some.word.now c.in-Some-read_count.n c.args.words.now c.next.new.self c.in-Some.ensures c.in-Some-read_count.ensures (omega arith) (omega (arith, c.if-n.true))
