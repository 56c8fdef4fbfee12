use Rattle.std.proofs.Common.{◌<◌, List, [], length, subst, sym, ap, ◌∙◌}
use Rattle.iqueue.specs.code.Queue.{Queue}
use Rattle.wake_levels.specs.code.Queues.{lists_of, AreBelow}
use Rattle.wake_levels.proofs.Queueing.{below_all, some_all, lists_all, waking}
use Rattle.wake_levels.proofs.levels.WakeLevels.new.Goals as goal

pub invariant_of-result : goal.invariant_of-result
invariant_of-result c = (
  subst (AreBelow c.args.n) (sym c.in_ok-empty_queues.ensures) (below_all c.args.n c.args.levels),
  subst (λ (qs : List Queue). 0 < length qs) (sym c.in_ok-empty_queues.ensures) (some_all (record { below = c.args.n; list = [] }) c.args.levels c.requires),
)

pub returns : goal.returns
returns c = ap (waking c.args.n) (ap lists_of c.in_ok-empty_queues.ensures ∙ lists_all c.args.n c.args.levels)
