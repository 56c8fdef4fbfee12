use Rattle.std.proofs.Common.{◌≡◌, ◌∙◌, ap, arith, map, rules, to_z, of_z, w64}
use Rattle.std.proofs.lemmas.Int.{ints}
use Rattle.sched_model.specs.Words.{total}
use Rattle.refute_cumul.specs.code.Loads.{load_of, bounded}
use Rattle.refute_cumul.proofs.levels.load.Goals as goal
use Rattle.sched_model.specs.laws.Totals.{sum_turn, sum_end}

pub loop-part-preserved : goal.loop-part-preserved
loop-part-preserved c = record {
  same = sum_turn (λ i. load_of (bounded c.args.look.now.region c.args.below i) (to_z w64 (of_z w64 c.args.t))) c.args.parts.now c.loop-part.part-index _ c.load_at-sum.result _ _ _ c.loop-part.invariant.same c.loop-part-test.true c.load_at-sum.ensures.value (omega (arith, ints));
  from = omega (arith, ints);
  to = omega (arith, ints);
}

pub returns-clause-value : goal.returns-clause-value
returns-clause-value c = let same : to_z w64 (of_z w64 c.args.t) ≡ c.args.t = search rules in
    sum_end (λ i. load_of (bounded c.args.look.now.region c.args.below i) (to_z w64 (of_z w64 c.args.t))) c.args.parts.now c.loop-part.part-index _ _ c.loop-part.invariant.same c.loop-part-test.false
    ∙ ap (λ t. total (map (λ i. load_of (bounded c.args.look.now.region c.args.below i) t) c.args.parts.now)) same
