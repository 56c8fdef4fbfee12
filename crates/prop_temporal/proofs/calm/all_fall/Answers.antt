use Rattle.std.proofs.Common.{◌≡◌, true, length, ap, arith, rules}
use Rattle.sched_model.specs.laws.Limits.{limits_of}
use Rattle.prop_temporal.specs.code.Shown.{OfConstraint}
use Rattle.prop_temporal.specs.code.Heights.{height_in}
use Rattle.prop_temporal.specs.laws.Collecting.{few_bounds}
use Rattle.prop_temporal.specs.laws.Falling.{falls_next_constraint, falls_next_interval, falls_none_yet, falls_fewer, all_fallen}
use Rattle.prop_temporal.proofs.calm.all_fall.Goals as goal

pub loop-u-preserved : goal.loop-u-preserved
loop-u-preserved c =
    let yes : c.constraint_falls.result ≡ true = search rules in
    falls_next_constraint c.args.model.now c.args.look.now.region (height_in c.args.heights.now) c.loop-u.u (c.constraint_falls.ensures yes) c.loop-u.invariant

pub loop-x-init : goal.loop-x-init
loop-x-init c =
    let few = (limits_of c.args.model.now c.constraints.ensures.valid.limits).constraints in
    let all = ap (λ xs. length xs) c.constraints.ensures.list in (
      falls_fewer c.args.model.now c.args.look.now.region (height_in c.args.heights.now) c.loop-u.u (length c.args.model.now.constraints) (omega (arith, few, all, c.loop-u-test.false)) c.loop-u.invariant,
      falls_none_yet c.args.model.now c.args.look.now.region (height_in c.args.heights.now) (λ i. OfConstraint i → ⊥),
    )

pub loop-x-preserved : goal.loop-x-preserved
loop-x-preserved c =
    let yes : c.interval_falls.result ≡ true = search rules in
    (c.loop-x.invariant.0, falls_next_interval c.args.model.now c.args.look.now.region (height_in c.args.heights.now) c.loop-x.x (c.interval_falls.ensures yes) c.loop-x.invariant.1)

pub returns : goal.returns
returns c = λ _.
    let few = few_bounds c.args.model.now c.args.look.now.region c.constraints.ensures.valid c.requires in
    all_fallen c.args.model.now c.args.look.now.region (height_in c.args.heights.now) c.loop-x.x (omega (arith, few, c.len-x-end.ensures, c.loop-x-test.false)) c.loop-x.invariant.0 c.loop-x.invariant.1
