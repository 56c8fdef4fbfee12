use Rattle.std.proofs.Common.{◌≡◌, ◌∙◌, Err, rules, sym, subst}
use Rattle.sched_model.specs.Domain.{lists_present}
use Rattle.read_schedule.specs.code.Rows.{order_row}
use Rattle.read_schedule.specs.code.Reads.{TriesRow, are_all_itvs, sequence_at}
use Rattle.read_schedule.proofs.spelling.Taken.{row_failed, unfit}
use Rattle.read_schedule.proofs.given.Defs.{order_at}
use Rattle.read_schedule.proofs.orders.next_order.Goals as goal

pub returns-in_default-clause-row : goal.returns-in_default-clause-row
returns-in_default-clause-row c = λ v fits. c.in_default.ensures.1 (order_row c.args.model.now c.args.i (sequence_at c.args.model.now c.args.i) v)

pub returns-in_err-order-clause-row : goal.returns-in_err-order-clause-row
returns-in_err-order-clause-row c =
    let m = c.args.model.now in
    let i = c.args.i in
    let d = sequence_at m i in
    let is : c.from_residual.result ≡ Err c.in_err-order.field-0.0 = search rules in
    subst (TriesRow (order_row m i d) (lists_present c.args.a d) c.args.lines.now c.next.new.self) (sym is)
    (row_failed (order_row m i d) (are_all_itvs m) (lists_present c.args.a d) (order_at m c.requires.valid c.args.a i c.requires.within) c.args.lines.now c.in-Some.line.now c.next.new.self c.in_err-order.field-0.0 c.in-Some.ensures c.in_err-order.ensures)

pub returns-clause-row : goal.returns-clause-row
returns-clause-row c =
    let m = c.args.model.now in
    let i = c.args.i in
    let d = sequence_at m i in
    unfit (order_row m i d) (are_all_itvs m) (lists_present c.args.a d) (order_at m c.requires.valid c.args.a i c.requires.within) c.args.lines.now c.in-Some.line.now c.next.new.self c.in_ok-order.order c.in-Some.ensures c.in_ok-order.ensures (sym c.try_order-a.ensures.test ∙ c.if-fits.false)
