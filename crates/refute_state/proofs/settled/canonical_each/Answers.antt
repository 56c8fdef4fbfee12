use Rattle.std.proofs.Common.{rules}
use Rattle.refute_state.specs.code.Canonical.{canonical_for}
use Rattle.refute_state.proofs.Collecting.{function_step}
use Rattle.refute_state.proofs.settled.canonical_each.Goals as goal

pub loop-n-preserved : goal.loop-n-preserved
loop-n-preserved c = function_step (canonical_for c.args.model.now c.args.slots.now) c.loop-n.n c.loop-n.found.items c.push.new.self.items c.in_ok-segments.segments c.loop-n.invariant (search rules) (search rules)
