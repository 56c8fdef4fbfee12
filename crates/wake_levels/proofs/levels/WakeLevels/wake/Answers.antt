use Rattle.std.proofs.Common.{◌≡◌, ◌<◌, ℕ, length, subst, sym, ap, ◌∙◌, arith, rules}
use Rattle.iqueue.specs.code.Queue.{Queue}
use Rattle.wake_levels.specs.code.Queues.{lists_of}
use Rattle.wake_levels.proofs.Queueing.{woken_at, below_at, below_set, some_queues, lists_count, waking}
use Rattle.wake_levels.proofs.levels.WakeLevels.wake.Goals as goal

pub wake-requires : goal.wake-requires
wake-requires c =
    let qs = c.self.inside.queues.items in
    let view : c.args.self.now.levels ≡ lists_of qs = search rules in
    let below : c.args.self.now.below ≡ c.self.inside.count = search rules in
    let within : c.args.level < length qs = omega (arith, lists_count qs, ap length view, c.requires.level) in
    subst (λ (n : ℕ). c.args.k < n) (below ∙ sym (below_at qs c.args.level c.self.inside.count c.index_mut.result.now within c.index_mut.ensures.value c.self.invariant.0)) c.requires.below

pub invariant_of-self : goal.invariant_of-self
invariant_of-self c =
    let qs = c.self.inside.queues.items in
    let view : c.args.self.now.levels ≡ lists_of qs = search rules in
    let within : c.args.level < length qs = omega (arith, lists_count qs, ap length view, c.requires.level) in
    let low = ap (λ (q : Queue). q.below) c.wake.ensures ∙ below_at qs c.args.level c.self.inside.count c.index_mut.result.now within c.index_mut.ensures.value c.self.invariant.0 in
    (below_set qs c.args.level c.self.inside.count c.wake.new.self low c.self.invariant.0, some_queues qs c.args.level c.wake.new.self c.self.invariant.1)

pub returns : goal.returns
returns c =
    let qs = c.self.inside.queues.items in
    let view : c.args.self.now.levels ≡ lists_of qs = search rules in
    let below : c.args.self.now.below ≡ c.self.inside.count = search rules in
    let within : c.args.level < length qs = omega (arith, lists_count qs, ap length view, c.requires.level) in
    rw (below, view) (ap (waking c.self.inside.count) (woken_at qs c.args.level c.args.k c.index_mut.result.now c.wake.new.self within c.index_mut.ensures.value c.wake.ensures))
