use Rattle.std.proofs.Common.{rules}
use Rattle.engine.proofs.Noting.{noted_more}
use Rattle.engine.proofs.watchers.note_sequences.Goals as goal

pub loop-p-preserved : goal.loop-p-preserved
loop-p-preserved c =
    noted_more c.args.k (λ y. y.0) c.args.ps.now c.loop-p.p-index _ c.args.lists.now.items c.loop-p.lists.items c.note.new.lists.items c.loop-p.invariant (search rules) (search rules) c.in_ok-note.ensures
