use Rattle.std.proofs.Common.{arith, length}
use Rattle.prop_unary.proofs.Hearing.{all_heard, more_heard}
use Rattle.prop_unary.proofs.heard.heard_of.Goals as goal

pub loop-k-preserved : goal.loop-k-preserved
loop-k-preserved c = more_heard c.args.model.now c.args.region.now.region c.args.d.now c.args.first.member c.args.members.now c.loop-k.k c.loop-k.heard c.with_bit-heard.result c.are_surely_silent-is_silent.result c.requires.is c.loop-k.invariant c.with_bit-heard.ensures c.are_surely_silent-is_silent.ensures

pub returns : goal.returns
returns c = all_heard c.args.model.now c.args.region.now.region c.args.d.now c.args.first.member c.args.members.now c.loop-k.k (length c.args.members.now) c.loop-k.heard (let end = c.loop-k-test.false in omega (arith, end)) c.loop-k.invariant
