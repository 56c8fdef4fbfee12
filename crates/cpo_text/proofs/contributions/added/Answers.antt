use Rattle.std.proofs.Common.{◌-◌, ◌∙◌, arith}
use Rattle.cpo_text.specs.code.Gives.{ahead}
use Rattle.cpo_text.proofs.levelled.Adding.{added_turn}
use Rattle.cpo_text.proofs.contributions.added.Goals as goal

pub loop-left-preserved : goal.loop-left-preserved
loop-left-preserved c = record {
  same = rw c.in_ok-push-in-Some.ensures.ok
      (added_turn c.loop-left.left (c.loop-left.left - 1) c.loop-left.parts c.in-Some.minus c.in_ok-part-in-Some.part (ahead c.loop-left.here) (ahead c.in-Some.next) (ahead c.in_ok-part-in-Some.rest)
      (omega (arith, c.loop-left-test.true)) c.in-Some.ensures c.in_ok-part-in-Some.ensures) ∙ c.loop-left.invariant.same;
  within = omega (arith, c.loop-left.invariant.within);
}
