use Rattle.std.proofs.Common.{refl}
use Rattle.std.proofs.Common.{arith}
use Rattle.sched_text.proofs.Lists.{row_more, rows_end}
use Rattle.sched_text.proofs.Printing.{none_yet}
use Rattle.sched_text.proofs.definitions.put_rows.Goals as goal

pub loop-left-init : goal.loop-left-init
loop-left-init g c = none_yet refl

pub loop-left-preserved : goal.loop-left-preserved
loop-left-preserved g c =
    row_more c.loop-left.left c.args.n _ _ _ c.loop-left.is_first (omega arith) c.cut.ensures.row c.cut.ensures.others c.loop-left.invariant c.put_comma.ensures c.put_row.ensures

pub returns : goal.returns
returns g c = rows_end c.loop-left.left c.args.n _ c.loop-left.is_first (omega arith) c.loop-left.invariant
