use Rattle.std.proofs.Common.{◌++◌, ap, codes}
use Rattle.sched_text.specs.Pieces.{interval_name}
use Rattle.sched_text.proofs.Lines.{line_of_items}
use Rattle.sched_text.proofs.Printing.{both, «as»}
use Rattle.sched_text.proofs.answers.put_order.Goals as goal

pub returns : goal.returns
returns g c =
    «as» (both c.put_text.ensures (both c.put_label.ensures (both c.put_members.ensures c.put_text-2.ensures)))
    (ap (λ t. codes "order " ++ t) (line_of_items (interval_name c.args.model.now) c.args.order.now _))
