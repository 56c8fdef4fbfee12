use Rattle.prop_sets.proofs.answering.next_id.Goals as goal

pub loop-j-preserved : goal.loop-j-preserved
loop-j-preserved c = c.sooner-next.ensures c.args.n c.loop-j.invariant
