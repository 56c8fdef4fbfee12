use Rattle.std.proofs.Common.{◌≡◌, map, subst, sym, ap, ◌∙◌, rules}
use Rattle.std.proofs.lemmas.List.{with_items_is}
use Rattle.std.specs.Vec.{with_items}
use Rattle.wake_levels.specs.code.Queues.{lists_of, AreBelow, queue_without}
use Rattle.wake_levels.proofs.Queueing.{lists_without, below_without, some_without, waking}
use Rattle.wake_levels.proofs.levels.WakeLevels.unwake.Goals as goal

pub unwake_each-requires : goal.unwake_each-requires
unwake_each-requires c = (c.self.inside.count, subst (AreBelow c.self.inside.count) (sym c.deref_mut.ensures.value) c.self.invariant.0, search rules)

pub invariant_of-self : goal.invariant_of-self
invariant_of-self c =
    let qs = c.self.inside.queues.items in
    let whole : (with_items c.self.inside.queues c.unwake_each.new.queues).items ≡ map (queue_without c.args.k) qs =
    with_items_is c.self.inside.queues c.unwake_each.new.queues (search rules) ∙ c.unwake_each.ensures ∙ ap (map (queue_without c.args.k)) c.deref_mut.ensures.value in
    rw whole (below_without c.self.inside.count c.args.k qs c.self.invariant.0, some_without c.args.k qs c.self.invariant.1)

pub returns : goal.returns
returns c =
    let qs = c.self.inside.queues.items in
    let view : c.args.self.now.levels ≡ lists_of qs = search rules in
    let below : c.args.self.now.below ≡ c.self.inside.count = search rules in
    let whole : (with_items c.self.inside.queues c.unwake_each.new.queues).items ≡ map (queue_without c.args.k) qs =
    with_items_is c.self.inside.queues c.unwake_each.new.queues (search rules) ∙ c.unwake_each.ensures ∙ ap (map (queue_without c.args.k)) c.deref_mut.ensures.value in
    rw (below, view) (ap (waking c.self.inside.count) (ap lists_of whole ∙ lists_without c.args.k qs))
