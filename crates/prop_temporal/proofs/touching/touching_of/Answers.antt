use Rattle.std.proofs.Common.{◌<◌, [], length, ap, ◌∙◌, arith}
use Rattle.std.proofs.lemmas.List.{get_or_default}
use Rattle.sched_model.specs.laws.Limits.{limits_of}
use Rattle.prop_temporal.specs.laws.Touching.{touched_more, touched_all}
use Rattle.prop_temporal.proofs.touching.touching_of.Goals as goal

pub loop-c-preserved : goal.loop-c-preserved
loop-c-preserved c =
    let few = (limits_of c.args.model.now c.constraints.ensures.valid.limits).constraints in
    let all = ap (λ xs. length xs) c.constraints.ensures.list in
    let within : c.loop-c.c < length c.args.model.now.constraints = omega (arith, few, all, c.loop-c-test.true) in
    let inside : c.loop-c.c < length c.args.ends.now = omega (arith, within, c.requires.size) in
    touched_more c.args.model.now c.loop-c.c c.loop-c.touching.items c.touch_all.new.touching.items c.touch_all-in-loop-c.new.touching.items c.as_slice.result.now c.members_at.result.now
    (c.as_slice.ensures ∙ c.index-ends-c.is ∙ get_or_default c.args.ends.now c.loop-c.c c.index-ends-c.result [] inside ∙ c.requires.each c.loop-c.c within)
    c.members_at.ensures c.in_ok-touch_all.ensures c.in_ok-touch_all-2.ensures c.loop-c.invariant

pub returns : goal.returns
returns c =
    let few = (limits_of c.args.model.now c.constraints.ensures.valid.limits).constraints in
    let all = ap (λ xs. length xs) c.constraints.ensures.list in
    touched_all c.args.model.now c.loop-c.c c.loop-c.touching.items (omega (arith, few, all, c.loop-c-test.false)) c.loop-c.invariant
