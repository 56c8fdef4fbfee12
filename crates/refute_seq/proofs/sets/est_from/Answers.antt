use Rattle.std.proofs.Common.{rules, w64, to_z, of_z}
use Rattle.std.specs.Int.{int_min}
use Rattle.task_sets.specs.Times.{turned}
use Rattle.refute_seq.specs.Sets.{times_of}
use Rattle.refute_seq.proofs.Walking.{fold_step}
use Rattle.refute_seq.proofs.sets.est_from.Goals as goal

pub loop-n-preserved : goal.loop-n-preserved
loop-n-preserved c = fold_step int_min (λ i. i.est) (turned c.args.side (times_of c.args.look.now.region)) c.args.set.now c.loop-n.n-index (to_z w64 c.loop-n.least-bits) (to_z w64 (of_z w64 c.earlier-least.result)) _ c.loop-n.invariant c.loop-n-test.true (search rules)
