use Rattle.std.proofs.Common.{refl}
use Rattle.sched_text.specs.Canonical.{matrix_text}
use Rattle.sched_text.proofs.Rows.{text_more, texts_end}
use Rattle.sched_text.proofs.Printing.{none_yet}
use Rattle.sched_text.proofs.canonical.put_matrices.Goals as goal

pub loop-d-init : goal.loop-d-init
loop-d-init g c = none_yet refl

pub loop-d-preserved : goal.loop-d-preserved
loop-d-preserved g c = text_more matrix_text c.args.defs.now c.loop-d.d-index _ _ c.loop-d-test.true c.d-item.is c.loop-d.invariant c.put_matrix_def.ensures

pub returns : goal.returns
returns g c = texts_end matrix_text c.args.defs.now c.loop-d.d-index c.loop-d-test.false c.loop-d.invariant
