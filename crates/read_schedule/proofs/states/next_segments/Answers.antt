use Rattle.std.proofs.Common.{◌≡◌, ◌∙◌, Err, rules, sym, subst}
use Rattle.sched_model.specs.Domain.{are_segments}
use Rattle.read_schedule.specs.code.Rows.{state_row}
use Rattle.read_schedule.specs.code.Reads.{TriesRow, are_spelled, state_at}
use Rattle.read_schedule.proofs.spelling.Taken.{row_failed, unfit}
use Rattle.read_schedule.proofs.given.Defs.{segments_at}
use Rattle.read_schedule.proofs.states.next_segments.Goals as goal

pub returns-in_default-clause-row : goal.returns-in_default-clause-row
returns-in_default-clause-row c = λ v fits. c.in_default.ensures.1 (state_row c.args.i (state_at c.args.model.now c.args.i) v)

pub returns-in_err-segments-clause-row : goal.returns-in_err-segments-clause-row
returns-in_err-segments-clause-row c =
    let m = c.args.model.now in
    let i = c.args.i in
    let d = state_at m i in
    let is : c.from_residual.result ≡ Err c.in_err-segments.field-0.0 = search rules in
    subst (TriesRow (state_row i d) (are_segments m d) c.args.lines.now c.next.new.self) (sym is)
    (row_failed (state_row i d) are_spelled (are_segments m d) (segments_at m c.requires.valid i c.requires.within) c.args.lines.now c.in-Some.line.now c.next.new.self c.in_err-segments.field-0.0 c.in-Some.ensures c.in_err-segments.ensures)

pub returns-clause-row : goal.returns-clause-row
returns-clause-row c =
    let m = c.args.model.now in
    let i = c.args.i in
    let d = state_at m i in
    unfit (state_row i d) are_spelled (are_segments m d) (segments_at m c.requires.valid i c.requires.within) c.args.lines.now c.in-Some.line.now c.next.new.self c.in_ok-segments.segments c.in-Some.ensures c.in_ok-segments.ensures (sym c.try_segments-a.ensures.test ∙ c.if-fits.false)
