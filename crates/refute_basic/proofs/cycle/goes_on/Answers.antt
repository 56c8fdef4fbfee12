use Rattle.std.proofs.Common.{rules, arith, ap, ◌∙◌, w64, SFits}
use Rattle.std.proofs.lemmas.Int.{to_z-of_z}
use Rattle.std.proofs.lemmas.Int.{ints}
use Rattle.refute_basic.specs.Cycle.{goes_on}
use Rattle.refute_basic.proofs.Turns.{turn_on, turn_off}
use Rattle.std.proofs.Common.{get_or}
use Rattle.std.proofs.lemmas.List.{get_or_default}
use Rattle.refute_basic.proofs.Turns.{no_name}
use Rattle.refute_basic.proofs.cycle.goes_on.Goals as goal

pub loop-k-preserved : goal.loop-k-preserved
loop-k-preserved c = record {
  same = turn_on c.args.model.now c.args.look.now.region c.args.begin c.loop-k.at _ _ c.args.rest.now c.loop-k.k (get_or c.args.rest.now c.loop-k.k no_name) c.in-Some.e _ (omega arith) c.in-Some.ensures (get_or_default c.args.rest.now c.loop-k.k no_name (get_or c.args.rest.now c.loop-k.k no_name) (omega arith)) (search rules) c.loop-k.invariant.same (search rules);
  low = omega (arith, ints, c.add-sum.ensures.lower, c.loop-k.invariant.low);
  high = omega (arith, ints, c.add-sum.ensures.upper, c.loop-k.invariant.high);
}

pub returns-then-at-e : goal.returns-then-at-e
returns-then-at-e c =
    let small : SFits w64 c.args.first = search rules in
    turn_off c.args.model.now c.args.look.now.region c.args.begin c.loop-k.at _ c.args.rest.now c.loop-k.k (get_or c.args.rest.now c.loop-k.k no_name) c.in-Some.e (omega arith)
    (get_or_default c.args.rest.now c.loop-k.k no_name (get_or c.args.rest.now c.loop-k.k no_name) (omega arith)) c.in-Some.ensures c.if-at-e.true
    ∙ c.loop-k.invariant.same
    ∙ ap (λ z. goes_on c.args.model.now c.args.look.now.region c.args.begin c.args.from z c.args.rest.now) (to_z-of_z w64 c.args.first small)
