use Rattle.std.proofs.Common.{length, ap, arith}
use Rattle.sched_model.specs.laws.Limits.{limits_of}
use Rattle.prop_temporal.specs.laws.Collecting.{few_bounds, fewer_tried, fewer_constraints, next_constraint, next_interval}
use Rattle.prop_temporal.proofs.shown.Shown.fill.Goals as goal

pub loop-u-preserved : goal.loop-u-preserved
loop-u-preserved c = (c.in_ok-try_constraint.ensures.shown c.loop-u.invariant.0, next_constraint c.args.model.now c.args.look.now.region c.loop-u.u c.loop-u.self c.try_constraint.new.self c.in_ok-try_constraint.ensures c.loop-u.invariant.1)

pub loop-x-init : goal.loop-x-init
loop-x-init c =
    let few = (limits_of c.args.model.now c.constraints.ensures.valid.limits).constraints in
    let all = ap (λ xs. length xs) c.constraints.ensures.list in
    (c.loop-u.invariant.0, fewer_constraints c.args.model.now c.args.look.now.region c.loop-u.u 0 (length c.args.model.now.constraints) c.loop-u.self (omega (arith, few, all, c.loop-u-test.false)) c.loop-u.invariant.1)

pub loop-x-preserved : goal.loop-x-preserved
loop-x-preserved c = (c.in_ok-try_interval.ensures.shown c.loop-x.invariant.0, next_interval c.args.model.now c.args.look.now.region (length c.args.model.now.constraints) c.loop-x.x c.loop-x.self c.try_interval.new.self c.in_ok-try_interval.ensures c.loop-x.invariant.1)

pub returns-clause-tried : goal.returns-clause-tried
returns-clause-tried c =
    let few = few_bounds c.args.model.now c.args.look.now.region c.constraints.ensures.valid c.requires in
    fewer_tried c.args.model.now c.args.look.now.region (length c.args.model.now.constraints) c.loop-x.x (length c.args.look.now.region.bounds) c.loop-x.self (omega (arith, few, c.len-x-end.ensures, c.loop-x-test.false)) c.loop-x.invariant.1
