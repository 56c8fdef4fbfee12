use Rattle.std.proofs.Common.{◌≡◌, ◌<◌, ℕ, List, get_or, length, set, subst, sym, ap, ◌∙◌, rules}
use Rattle.iqueue.specs.code.Queue.{Queue}
use Rattle.wake_levels.specs.code.Queues.{AreBelow, queue_without}
use Rattle.wake_levels.proofs.Queueing.{unwoken_all, unwoken_more, below_at, below_unwoken}
use Rattle.wake_levels.proofs.levels.unwake_each.Goals as goal

pub unwake-requires : goal.unwake-requires
unwake-requires c =
    let n = c.requires.0 in
    let i = c.loop-level.level in
    let within : i < length c.loop-level.queues = search rules in
    let are : AreBelow n c.loop-level.queues = subst (AreBelow n) (sym c.loop-level.invariant) (below_unwoken n c.args.k i c.args.queues.now c.requires.1) in
    subst (λ (m : ℕ). c.args.k < m) (sym (below_at c.loop-level.queues i n c.index-queues-level.result within c.index-queues-level.is are) ∙ ap (λ (q : Queue). q.below) c.index-queues-level.is) c.requires.2

pub loop-level-preserved : goal.loop-level-preserved
loop-level-preserved c =
    let k = c.args.k in
    let i = c.loop-level.level in
    let q = c.index-queues-level.result in
    let same = c.loop-level.invariant in
    ap (λ (qs : List Queue). set qs i c.unwake.new.self) same
    ∙ unwoken_more k i c.args.queues.now q c.unwake.new.self c.loop-level-test.true (subst (λ (qs : List Queue). q ≡ get_or qs i q) same c.index-queues-level.is) (c.unwake.ensures ∙ ap (queue_without k) (sym c.index-queues-level.is))

pub returns : goal.returns
returns c =
    let past : length c.args.queues.now ≡ c.loop-level.level = search rules in
    c.loop-level.invariant ∙ unwoken_all c.args.k c.loop-level.level c.args.queues.now (sym past)
