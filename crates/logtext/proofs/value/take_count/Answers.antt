use Rattle.std.proofs.Common.{arith}
use Rattle.logtext.proofs.Values.{over_count}
use Rattle.logtext.proofs.value.take_count.Goals as goal

pub returns : goal.returns
returns c = over_count c.in_ok-word.word.now c.in-Some.n c.args.words.now c.next.new.self c.in_ok-word.ensures c.in-Some.ensures (omega arith) c.if-n.false
