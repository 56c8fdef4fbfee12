use Rattle.std.proofs.Common.{◌≡◌, ◌∙◌, ap, arith, false, of_z, pos, rules, to_z}
use Rattle.std.specs.Int.{w128}
use Rattle.std.specs.List.{list_all}
use Rattle.sched_model.specs.Changes.{keeps_at}
use Rattle.std.proofs.lemmas.Int.{ints}
use Rattle.sched_model.specs.declared.changes.Change.{Change}
use Rattle.sched_model.proofs.levels.Moments.{keep_stop, keep_turn, skip_turn, sum_on}
use Rattle.sched_model.proofs.changes.keep_each.Goals as goal

pub loop-i-preserved-then-is_like : goal.loop-i-preserved-then-is_like
loop-i-preserved-then-is_like c = let d : Change = record { t = pos 0; minus = false; h = pos 0 } in
    let same : to_z w128 (of_z w128 c.risen-level.result) ≡ c.risen-level.result = search rules in
    record {
      sum = sum_on c.args.changes.now c.loop-i.i d (to_z w128 (of_z w128 c.args.before)) _ (to_z w128 (of_z w128 c.risen-level.result)) c.loop-i.invariant.sum c.loop-i-test.true (same ∙ c.risen-level.ensures.value);
      from = omega (arith, ints);
      to = omega (arith, ints);
      rest = skip_turn c.args.a.now c.args.b.window c.args.b.lo c.args.b.hi (to_z w128 (of_z w128 c.args.before)) c.args.changes.now c.loop-i.i d _ c.loop-i.invariant.rest c.loop-i-test.true c.if-is_like.ensures;
    }

pub returns-then-not-keeps : goal.returns-then-not-keeps
returns-then-not-keeps c = let d : Change = record { t = pos 0; minus = false; h = pos 0 } in
    let same : to_z w128 (of_z w128 c.risen-level.result) ≡ c.risen-level.result = search rules in
    let began : to_z w128 (of_z w128 c.args.before) ≡ c.args.before = search rules in
    keep_stop c.args.a.now c.args.b.window c.args.b.lo c.args.b.hi (to_z w128 (of_z w128 c.args.before)) c.args.changes.now c.loop-i.i d (to_z w128 (of_z w128 c.risen-level.result)) _ c.requires.order c.loop-i.invariant.rest c.loop-i-test.true c.if-is_like.ensures (sum_on c.args.changes.now c.loop-i.i d (to_z w128 (of_z w128 c.args.before)) _ (to_z w128 (of_z w128 c.risen-level.result)) c.loop-i.invariant.sum c.loop-i-test.true (same ∙ c.risen-level.ensures.value)) c.if-not-keeps.ensures
    ∙ ap (λ z. list_all (λ e. keeps_at c.args.a.now c.args.b.window c.args.b.lo c.args.b.hi z c.args.changes.now e.t) c.args.changes.now) began

pub loop-i-preserved : goal.loop-i-preserved
loop-i-preserved c = let d : Change = record { t = pos 0; minus = false; h = pos 0 } in
    let same : to_z w128 (of_z w128 c.risen-level.result) ≡ c.risen-level.result = search rules in
    record {
      sum = sum_on c.args.changes.now c.loop-i.i d (to_z w128 (of_z w128 c.args.before)) _ (to_z w128 (of_z w128 c.risen-level.result)) c.loop-i.invariant.sum c.loop-i-test.true (same ∙ c.risen-level.ensures.value);
      from = omega (arith, ints);
      to = omega (arith, ints);
      rest = keep_turn c.args.a.now c.args.b.window c.args.b.lo c.args.b.hi (to_z w128 (of_z w128 c.args.before)) c.args.changes.now c.loop-i.i d (to_z w128 (of_z w128 c.risen-level.result)) _ c.requires.order c.loop-i.invariant.rest c.loop-i-test.true c.if-is_like.ensures (sum_on c.args.changes.now c.loop-i.i d (to_z w128 (of_z w128 c.args.before)) _ (to_z w128 (of_z w128 c.risen-level.result)) c.loop-i.invariant.sum c.loop-i-test.true (same ∙ c.risen-level.ensures.value)) c.if-not-keeps.ensures;
    }
