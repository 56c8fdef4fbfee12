use Rattle.std.proofs.Common.{[], refl, arith}
use Rattle.sched_model.specs.Domain.{fits_def}
use Rattle.read_schedule.proofs.spelling.Rows.{begins_none}
use Rattle.read_schedule.proofs.given.Standing.{one_stands, one_fails, all_stand}
use Rattle.read_schedule.proofs.slots.each_of.Goals as goal

pub loop-d-init : goal.loop-d-init
loop-d-init c = ([], begins_none fits_def c.args.defs.now, refl)

pub loop-d-preserved : goal.loop-d-preserved
loop-d-preserved c = one_stands c.args.defs.now c.loop-d.d-index c.d-item.result c.loop-d.invariant (omega (arith, c.loop-d-test.true)) c.d-item.is c.if-not-can_stand.ensures

pub returns : goal.returns
returns c = all_stand c.args.defs.now c.loop-d.d-index c.loop-d.invariant (omega (arith, c.loop-d-test.false))

pub returns-then-not-can_stand : goal.returns-then-not-can_stand
returns-then-not-can_stand c = one_fails c.args.defs.now c.loop-d.d-index c.d-item.result (omega (arith, c.loop-d-test.true)) c.d-item.is c.if-not-can_stand.ensures
