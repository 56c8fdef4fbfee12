use Rattle.std.proofs.Common.{refl}
use Rattle.sched_text.specs.Canonical.{statement, constraint_text}
use Rattle.sched_text.proofs.Rows.{text_more, texts_end}
use Rattle.sched_text.proofs.Printing.{none_yet}
use Rattle.sched_text.proofs.canonical.put_constraints.Goals as goal

pub loop-c-init : goal.loop-c-init
loop-c-init g c = none_yet refl

pub loop-c-preserved : goal.loop-c-preserved
loop-c-preserved g c = text_more (λ x. statement (constraint_text c.args.model.now x)) c.args.all.now c.loop-c.c-index _ _ c.loop-c-test.true c.c-item.is c.loop-c.invariant c.put_statement.ensures

pub returns : goal.returns
returns g c = texts_end (λ x. statement (constraint_text c.args.model.now x)) c.args.all.now c.loop-c.c-index c.loop-c-test.false c.loop-c.invariant
