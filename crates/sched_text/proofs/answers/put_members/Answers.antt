use Rattle.std.proofs.Common.{◌∷◌, refl}
use Rattle.sched_text.specs.Pieces.{interval_name}
use Rattle.sched_text.proofs.Rows.{text_more, texts_end}
use Rattle.sched_text.proofs.Printing.{none_yet}
use Rattle.sched_text.proofs.answers.put_members.Goals as goal

pub loop-x-init : goal.loop-x-init
loop-x-init g c = none_yet refl

pub loop-x-preserved : goal.loop-x-preserved
loop-x-preserved g c = text_more (λ x. 32 ∷ interval_name c.args.model.now x) c.args.order.now c.loop-x.x-index _ _ c.loop-x-test.true refl c.loop-x.invariant c.put_member.ensures

pub returns : goal.returns
returns g c = texts_end (λ x. 32 ∷ interval_name c.args.model.now x) c.args.order.now c.loop-x.x-index c.loop-x-test.false c.loop-x.invariant
