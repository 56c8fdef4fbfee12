use Rattle.std.proofs.Common.{◌≡◌, ◌<◌, ◌∙◌, refl, sym, ap, subst, length, arith, None, [], Err, rules}
use Rattle.sched_model.specs.Domain.{lists_present}
use Rattle.read_schedule.specs.code.Rows.{order_row}
use Rattle.read_schedule.specs.code.Reads.{TriesRow, sequence_at}
use Rattle.read_schedule.specs.declared.stop.PartStop.TheVariants.{Line}
use Rattle.read_schedule.proofs.spelling.Rows.{row_pushed, row_missing, rows_start, begins_all}
use Rattle.read_schedule.proofs.given.Defs.{item_of}
use Rattle.read_schedule.proofs.orders.read_orders.Goals as goal

pub loop-i-init : goal.loop-i-init
loop-i-init c =
    let start = rows_start (order_row c.args.model.now) (lists_present c.args.a) c.args.model.now.sequences c.new-orders.result c.args.lines.now c.new-orders.ensures in
    record { stays = refl; fits = start.0; many = start.1; same = start.2 }

pub returns-in-Err-Line : goal.returns-in-Err-Line
returns-in-Err-Line c =
    let m = c.args.model.now in
    let d = sequence_at m c.loop-i.i in
    let within : c.loop-i.i < length m.sequences = omega (arith, c.loop-i-test.true, ap length c.sequences-i-end.ensures.list) in
    let is : c.next_order.result ≡ Err (Line c.in-Err-Line.field-0-0) = search rules in
    let row = subst (TriesRow (order_row m c.loop-i.i d) (lists_present c.loop-i.a d) c.loop-i.lines c.next_order.new.lines) is c.next_order.ensures.row in
    row_missing (order_row m) (lists_present c.args.a) m.sequences c.loop-i.orders c.loop-i.i c.loop-i.i d c.args.lines.now c.loop-i.lines
    c.loop-i.invariant.many refl within (item_of m.sequences c.loop-i.i (record { name = None; members = []; types = None }) within) c.loop-i.invariant.fits c.loop-i.invariant.same
    (λ y fits. row y (ap (λ a. lists_present a d y) c.loop-i.invariant.stays ∙ fits))

pub loop-i-preserved : goal.loop-i-preserved
loop-i-preserved c =
    let m = c.args.model.now in
    let within : c.loop-i.i < length m.sequences = omega (arith, c.loop-i-test.true, ap length c.sequences-i-end.ensures.list) in
    let more = row_pushed (order_row m) (lists_present c.args.a) m.sequences c.loop-i.orders c.push.new.self c.loop-i.i (sequence_at m c.loop-i.i) c.in-Ok.order c.args.lines.now c.loop-i.lines c.next_order.new.lines
    c.loop-i.invariant.many within (item_of m.sequences c.loop-i.i (record { name = None; members = []; types = None }) within) c.loop-i.invariant.fits c.loop-i.invariant.same c.in_ok-push-in-Ok.ensures.ok
    (ap (λ a. lists_present a (sequence_at m c.loop-i.i) c.in-Ok.order) (sym c.loop-i.invariant.stays) ∙ c.in-Ok.ensures.row.0) c.in-Ok.ensures.row.1 in
    record { stays = c.in-Ok.ensures.same ∙ c.loop-i.invariant.stays; fits = more.0; many = more.1; same = more.2 }

pub returns : goal.returns
returns c = (
  c.loop-i.invariant.stays,
  begins_all (lists_present c.args.a) c.args.model.now.sequences c.loop-i.orders c.loop-i.invariant.fits (omega (arith, c.loop-i-test.false, c.loop-i.invariant.many, ap length c.sequences-i-end.ensures.list)),
  c.loop-i.invariant.same,
)
