use Rattle.std.proofs.Common.{◌≡◌, get_or, pos, subst, rules, to_z, of_z}
use Rattle.std.specs.Int.{w128, int_max}
use Rattle.refute_cumul.specs.declared.reach.Reach.{Reach}
use Rattle.refute_cumul.specs.code.Profiles.{Reaches}
use Rattle.refute_cumul.proofs.Placing.{reaches_on}
use Rattle.refute_cumul.proofs.reach.reach_from.Goals as goal

pub loop-reach-preserved : goal.loop-reach-preserved
loop-reach-preserved c = let q : Reach = record { top = pos 0; next = 0 } in
    let behind = get_or c.args.reaches.now c.loop-reach.reach.next q in
    let value : int_max c.loop-reach.reach.top behind.top ≡ to_z w128 (of_z w128 c.max.result) = search rules in
    subst (λ z. Reaches c.args.levels.now c.args.i (record { top = z; next = behind.next })) value
    (reaches_on c.args.levels.now c.args.i c.loop-reach.reach.top behind.top c.loop-reach.reach.next behind.next c.loop-reach.invariant (c.requires.each.each c.loop-reach.reach.next q c.loop-reach-test.true))
