use Rattle.std.proofs.Common.{◌∙◌, arith}
use Rattle.sched_model.specs.Domain.{fits_def}
use Rattle.read_schedule.specs.code.Rows.{slot_row}
use Rattle.read_schedule.proofs.spelling.Rows.{row_pushed, row_missing, rows_start, begins_all}
use Rattle.read_schedule.proofs.slots.read_all.Goals as goal

pub loop-d-init : goal.loop-d-init
loop-d-init c =
    let start = rows_start slot_row fits_def c.args.defs.now c.new-slots.result c.args.lines.now c.new-slots.ensures in
    record { fits = start.0; many = start.1; same = start.2 }

pub returns-in_default : goal.returns-in_default
returns-in_default c =
    row_missing slot_row fits_def c.args.defs.now c.loop-d.slots c.loop-d.d-index c.len.result c.d-item.result c.args.lines.now c.loop-d.lines
    c.loop-d.invariant.many (c.len.ensures ∙ c.loop-d.invariant.many) (omega (arith, c.loop-d-test.true)) c.d-item.is c.loop-d.invariant.fits c.loop-d.invariant.same c.in_default.ensures

pub loop-d-preserved : goal.loop-d-preserved
loop-d-preserved c =
    let more = row_pushed slot_row fits_def c.args.defs.now c.loop-d.slots c.push.new.self c.loop-d.d-index c.d-item.result c.in-Some.slot c.args.lines.now c.loop-d.lines c.next_slot.new.lines
    c.loop-d.invariant.many (omega (arith, c.loop-d-test.true)) c.d-item.is c.loop-d.invariant.fits c.loop-d.invariant.same c.in_ok-push.ensures.ok c.in-Some.ensures.0 c.in-Some.ensures.1 in
    record { fits = more.0; many = more.1; same = more.2 }

pub returns : goal.returns
returns c = (begins_all fits_def c.args.defs.now c.loop-d.slots c.loop-d.invariant.fits (omega (arith, c.loop-d-test.false, c.loop-d.invariant.many)), c.loop-d.invariant.same)
