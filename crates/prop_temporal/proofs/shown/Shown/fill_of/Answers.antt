use Rattle.std.proofs.Common.{arith, rules}
use Rattle.prop_temporal.specs.laws.Own.{one_of, own_all, of_all}
use Rattle.prop_temporal.proofs.shown.Shown.fill_of.Goals as goal

pub loop-c-preserved : goal.loop-c-preserved
loop-c-preserved c = one_of c.args.model.now c.args.look.now.region c.args.x c.args.constraints.now c.loop-c.c-index c.loop-c.self c.try_member.new.self (search rules) c.in_ok-try_member.ensures c.loop-c.invariant

pub returns : goal.returns
returns c = own_all c.args.model.now c.args.look.now.region c.args.x c.args.constraints.now c.loop-c.self c.try_interval.new.self c.in_ok-try_interval.ensures
    (of_all c.args.model.now c.args.look.now.region c.args.x c.args.constraints.now c.loop-c.c-index c.loop-c.self (omega (arith, c.loop-c-test.false, c.loop-c.auto.c-index-end)) c.loop-c.invariant)
