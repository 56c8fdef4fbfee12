use Rattle.std.proofs.Common.{◌≡◌, ◌∙◌, arith, false, of_z, pos, refl, rules, to_z}
use Rattle.std.specs.Int.{w128}
use Rattle.std.proofs.lemmas.Int.{ints}
use Rattle.sched_model.specs.declared.changes.Change.{Change}
use Rattle.svg_page.proofs.Steps.{step_more, steps_end}
use Rattle.svg_page.proofs.profiles.push_steps.Goals as goal

pub loop-i-preserved : goal.loop-i-preserved
loop-i-preserved c =
    let d : Change = record { t = pos 0; minus = false; h = pos 0 } in
    let same : to_z w128 (of_z w128 c.risen-level.result) ≡ c.risen-level.result = search rules in
    record {
      same = step_more c.args.changes.now c.loop-i.i _ d _ (to_z w128 (of_z w128 c.risen-level.result)) _ _ _ _ c.loop-i-test.true refl c.loop-i.invariant.same (same ∙ c.risen-level.ensures.value) (rw c.split_at.ensures.back at c.goes_on.ensures) c.in_ok-push_step.ensures;
      low = omega (arith, ints);
      high = omega (arith, ints);
    }

pub returns : goal.returns
returns c = steps_end c.args.changes.now c.loop-i.i _ _ _ c.loop-i-test.false c.loop-i.invariant.same
