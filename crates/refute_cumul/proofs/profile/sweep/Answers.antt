use Rattle.std.proofs.Common.{◌≡◌, ◌+◌, ◌≤◌, [], pos, false, refl, sym, subst, rules, arith, to_z, of_z, ◌∙◌}
use Rattle.std.specs.Int.{w128}
use Rattle.std.specs.Prelude.{vec_len}
use Rattle.std.proofs.lemmas.Int.{ints}
use Rattle.sched_model.specs.declared.changes.Change.{Change}
use Rattle.sched_model.specs.laws.Sums.{sum_more}
use Rattle.refute_cumul.proofs.Changing.{AreLevels, no_levels, same_moment, next_moment}
use Rattle.refute_cumul.proofs.profile.sweep.Goals as goal

pub loop-i-init : goal.loop-i-init
loop-i-init c = let empty : c.clear.new.self.items ≡ [] = search rules in
    let none : vec_len c.clear.new.self ≤ 0 = search rules in
    record {
      sum = refl;
      from = omega (arith, ints);
      to = omega (arith, ints);
      so_far = subst (λ ps. AreLevels c.args.changes.now 0 ps) (sym empty) (no_levels c.args.changes.now c.requires.order);
      few = none;
      room = refl;
    }

pub loop-i-preserved-then-is_like : goal.loop-i-preserved-then-is_like
loop-i-preserved-then-is_like c = let d : Change = record { t = pos 0; minus = false; h = pos 0 } in
    let same : to_z w128 (of_z w128 c.risen-level.result) ≡ c.risen-level.result = search rules in
    record {
      sum = sum_more c.args.changes.now c.loop-i.i d _ (to_z w128 (of_z w128 c.risen-level.result)) c.loop-i.invariant.sum c.loop-i-test.true (same ∙ c.risen-level.ensures.value);
      from = omega (arith, ints);
      to = omega (arith, ints);
      so_far = same_moment c.args.changes.now c.loop-i.i c.loop-i.levels.items d c.loop-i.invariant.so_far c.if-is_like.ensures;
      few = omega arith;
      room = c.loop-i.invariant.room;
    }

pub loop-i-preserved : goal.loop-i-preserved
loop-i-preserved c = let d : Change = record { t = pos 0; minus = false; h = pos 0 } in
    let same : to_z w128 (of_z w128 c.risen-level.result) ≡ c.risen-level.result = search rules in
    let sum = sum_more c.args.changes.now c.loop-i.i d _ (to_z w128 (of_z w128 c.risen-level.result)) c.loop-i.invariant.sum c.loop-i-test.true (same ∙ c.risen-level.ensures.value) in
    record {
      sum = sum;
      from = omega (arith, ints);
      to = omega (arith, ints);
      so_far = subst (λ ps. AreLevels c.args.changes.now (c.loop-i.i + 1) ps) (search rules)
          (next_moment c.args.changes.now c.loop-i.i c.loop-i.levels.items d (to_z w128 (of_z w128 c.risen-level.result)) c.requires.order c.loop-i.invariant.so_far c.loop-i-test.true c.if-is_like.ensures sum);
      few = search rules;
      room = search rules;
    }
