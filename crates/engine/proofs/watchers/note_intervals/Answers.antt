use Rattle.std.proofs.Common.{rules}
use Rattle.engine.proofs.Noting.{noted_more}
use Rattle.engine.proofs.watchers.note_intervals.Goals as goal

pub loop-x-preserved : goal.loop-x-preserved
loop-x-preserved c =
    noted_more c.args.k (λ y. y.0) c.args.xs.now c.loop-x.x-index _ c.args.lists.now.items c.loop-x.lists.items c.note.new.lists.items c.loop-x.invariant (search rules) (search rules) c.in_ok-note.ensures
