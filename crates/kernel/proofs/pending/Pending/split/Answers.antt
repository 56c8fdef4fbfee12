use Rattle.std.proofs.Common.{arith, rules}
use Rattle.kernel.proofs.Waiting.{put_pending, put_next}
use Rattle.kernel.proofs.pending.Pending.split.Goals as goal

pub returns-clause-pending : goal.returns-clause-pending
returns-clause-pending c = put_pending c.args.region.now c.assume.new.self c.args.self.now c.push.new.self.items c.args.g c.reserve-2.new.self.spare c.requires.pending c.requires.splits (search rules) (search rules) (omega (arith, c.in_ok-reserve-2.ensures.ok)) (search rules)

pub returns-clause-next : goal.returns-clause-next
returns-clause-next c = put_next c.args.region.now c.assume.new.self c.args.self.now c.push.new.self.items c.args.g c.requires.pending (search rules) (search rules)
