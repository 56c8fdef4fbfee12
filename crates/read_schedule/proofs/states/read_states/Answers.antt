use Rattle.std.proofs.Common.{◌≡◌, ◌<◌, ◌∙◌, refl, ap, subst, length, arith, None, [], Err, rules}
use Rattle.sched_model.specs.Domain.{are_segments}
use Rattle.read_schedule.specs.code.Rows.{state_row}
use Rattle.read_schedule.specs.code.Reads.{TriesRow, state_at}
use Rattle.read_schedule.specs.declared.stop.PartStop.TheVariants.{Line}
use Rattle.read_schedule.proofs.spelling.Rows.{row_pushed, row_missing, rows_start, begins_all}
use Rattle.read_schedule.proofs.given.Defs.{item_of}
use Rattle.read_schedule.proofs.states.read_states.Goals as goal

pub loop-i-init : goal.loop-i-init
loop-i-init c =
    let start = rows_start state_row (are_segments c.args.model.now) c.args.model.now.states c.new-segs.result c.args.lines.now c.new-segs.ensures in
    record { stays = refl; fits = start.0; many = start.1; same = start.2 }

pub returns-in-Err-Line : goal.returns-in-Err-Line
returns-in-Err-Line c =
    let m = c.args.model.now in
    let d = state_at m c.loop-i.i in
    let within : c.loop-i.i < length m.states = omega (arith, c.loop-i-test.true, ap length c.states-i-end.ensures.list) in
    let is : c.next_segments.result ≡ Err (Line c.in-Err-Line.field-0-0) = search rules in
    let row = subst (TriesRow (state_row c.loop-i.i d) (are_segments m d) c.loop-i.lines c.next_segments.new.lines) is c.next_segments.ensures.row in
    row_missing state_row (are_segments m) m.states c.loop-i.segs c.loop-i.i c.loop-i.i d c.args.lines.now c.loop-i.lines
    c.loop-i.invariant.many refl within (item_of m.states c.loop-i.i (record { name = []; matrix = None }) within) c.loop-i.invariant.fits c.loop-i.invariant.same row

pub loop-i-preserved : goal.loop-i-preserved
loop-i-preserved c =
    let m = c.args.model.now in
    let within : c.loop-i.i < length m.states = omega (arith, c.loop-i-test.true, ap length c.states-i-end.ensures.list) in
    let more = row_pushed state_row (are_segments m) m.states c.loop-i.segs c.push.new.self c.loop-i.i (state_at m c.loop-i.i) c.in-Ok.segments c.args.lines.now c.loop-i.lines c.next_segments.new.lines
    c.loop-i.invariant.many within (item_of m.states c.loop-i.i (record { name = []; matrix = None }) within) c.loop-i.invariant.fits c.loop-i.invariant.same c.in_ok-push-in-Ok.ensures.ok
    c.in-Ok.ensures.row.0 c.in-Ok.ensures.row.1 in
    record { stays = c.in-Ok.ensures.same ∙ c.loop-i.invariant.stays; fits = more.0; many = more.1; same = more.2 }

pub returns : goal.returns
returns c = (
  c.loop-i.invariant.stays,
  begins_all (are_segments c.args.model.now) c.args.model.now.states c.loop-i.segs c.loop-i.invariant.fits (omega (arith, c.loop-i-test.false, c.loop-i.invariant.many, ap length c.states-i-end.ensures.list)),
  c.loop-i.invariant.same,
)
