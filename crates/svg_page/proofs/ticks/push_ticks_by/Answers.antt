use Rattle.std.proofs.Common.{◌≡◌, ◌∙◌, ◌++◌, of_z, to_z, rules, arith, pos, subst}
use Rattle.std.specs.Int.{w128}
use Rattle.std.specs.List.{flat_map}
use Rattle.std.proofs.lemmas.Int.{ints}
use Rattle.svg_page.specs.Axis.{first_tick, moments, tick}
use Rattle.svg_page.proofs.Moments.{moment_more, moments_end}
use Rattle.svg_page.proofs.ticks.push_ticks_by.Goals as goal

pub loop-left-preserved : goal.loop-left-preserved
loop-left-preserved c = record {
  same = moment_more (tick c.args.axis c.args.height) c.loop-left.left _ _ (pos c.args.step) _ _ _ c.loop-left.invariant.same c.in_ok-push_tick.ensures c.loop-left-test.true (omega (arith, ints));
  few = omega arith;
  low = omega (arith, ints);
  high = omega (arith, ints);
}

pub returns : goal.returns
returns c =
    let same : to_z w128 (of_z w128 c.first_tick-t.result) ≡ c.first_tick-t.result = search rules in
    let is : to_z w128 (of_z w128 c.first_tick-t.result) ≡ first_tick c.args.axis.from (pos c.args.step) = same ∙ c.first_tick-t.ensures.value in
    subst (λ t. c.loop-left.page.items ≡ c.args.page.now.items ++ flat_map (tick c.args.axis c.args.height) (moments 12 t (pos c.args.step))) is
    (moments_end (tick c.args.axis c.args.height) c.loop-left.left _ (pos c.args.step) _ _ c.loop-left-test.false c.loop-left.invariant.same)
