use Rattle.engine.specs.code.Watching.{Watching}
use Rattle.engine.proofs.Noting.{listed_more}
use Rattle.engine.proofs.watchers.Watchers.new.Goals as goal

pub loop-k-preserved : goal.loop-k-preserved
loop-k-preserved g c =
    let m = c.args.model.now in
    let old : Watching = record { by_presence = c.loop-k.by_presence.items; by_bound = c.loop-k.by_bound.items; by_sequence = c.loop-k.by_sequence.items; by_best = c.loop-k.by_best } in
    let new : Watching = record { by_presence = c.note_intervals.new.lists.items; by_bound = c.note_intervals-in-loop-k.new.lists.items; by_sequence = c.note_sequences.new.lists.items; by_best = c.push_if.new.list } in
    listed_more c.loop-k.k (g.P.Propagator.watching m) (g.P.Propagator.watching_best m) c.watched_presences.result.now c.watched_bounds.result.now c.watched_orders.result.now c.watches_best.result old new
    c.loop-k.invariant (record { presences = c.in_ok-note_intervals.ensures; bounds = c.in_ok-note_intervals-2.ensures; orders = c.in_ok-note_sequences.ensures })
    (c.watched_presences.ensures m c.requires) (c.watched_bounds.ensures m c.requires) (c.watched_orders.ensures m c.requires) (c.watches_best.ensures m c.requires) c.in_ok-push_if.ensures
