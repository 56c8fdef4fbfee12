use Rattle.std.proofs.Common.{◌≡◌, Err, Some, None, rules, subst, refl}
use Rattle.read_schedule.specs.code.Reads.{ReadsBody, TakesHeader}
use Rattle.read_schedule.specs.declared.stop.PartStop.TheVariants.{Line}
use Rattle.read_schedule.proofs.whole.Headed.{none_stands, half_refused, body_refused, body_spelled}
use Rattle.read_schedule.proofs.reading.read_schedule.Goals as goal

pub returns-then-not-each_can_stand : goal.returns-then-not-each_can_stand
returns-then-not-each_can_stand c = none_stands c.args.model.now c.each_can_stand.ensures.valid c.args.bytes.now c.if-not-each_can_stand.ensures.stand

pub returns-in_default : goal.returns-in_default
returns-in_default c = half_refused c.args.model.now c.each_can_stand.ensures.valid c.args.bytes.now c.take_header.new.lines c.if-not-each_can_stand.ensures.stand (subst (λ b. TakesHeader b c.take_header.new.lines None) c.of-lines.ensures c.in_default.ensures)

pub returns-in-Ok : goal.returns-in-Ok
returns-in-Ok c = body_spelled c.args.model.now c.args.bytes.now c.take_header.new.lines c.in-Some.header c.in-Ok.a (subst (λ b. TakesHeader b c.take_header.new.lines (Some c.in-Some.header)) c.of-lines.ensures c.in-Some.ensures) c.in-Ok.ensures.0 c.in-Ok.ensures.1

pub returns-in-Err-Line : goal.returns-in-Err-Line
returns-in-Err-Line c =
    let m = c.args.model.now in
    let is : c.read_body.result ≡ Err (Line c.in-Err-Line.n) = search rules in
    let stops = subst (ReadsBody m c.take_header.new.lines) is c.read_body.ensures in
    body_refused m c.each_can_stand.ensures.valid c.args.bytes.now c.take_header.new.lines c.in-Some.header c.in-Err-Line.n _ (subst (λ b. TakesHeader b c.take_header.new.lines (Some c.in-Some.header)) c.of-lines.ensures c.in-Some.ensures) stops refl
