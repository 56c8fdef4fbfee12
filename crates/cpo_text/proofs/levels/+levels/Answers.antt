use Rattle.std.proofs.Common.{◌-◌, ◌∙◌, arith}
use Rattle.cpo_text.specs.code.Gives.{ahead}
use Rattle.cpo_text.proofs.operands.Onwards.{gives_on, gives_group}
use Rattle.cpo_text.proofs.operands.Turns.{turn_more, turn_plus, turn_minus, turn_items}
use Rattle.cpo_text.proofs.levels.+levels.Goals as goal

pub operands-loop-left-preserved : goal.operands-loop-left-preserved
operands-loop-left-preserved t c = record {
  same = rw c.in_ok-push-in-Some.ensures.ok
      (turn_more c.loop-left.left (c.loop-left.left - 1) c.args.link _ c.loop-left.operands c.in_ok-one-in-Some.one (ahead c.loop-left.here) (ahead c.in-Some.next) (ahead c.in_ok-one-in-Some.rest)
      (omega (arith, c.loop-left-test.true)) c.sign_of.ensures c.in-Some.ensures c.in_ok-one-in-Some.ensures) ∙ c.loop-left.invariant.same;
  within = omega (arith, c.loop-left.invariant.within);
}

pub terms-loop-left-preserved-in-Some : goal.terms-loop-left-preserved-in-Some
terms-loop-left-preserved-in-Some t c = record {
  same = rw c.in_ok-push.ensures.ok
      (turn_plus c.loop-left.left (c.loop-left.left - 1) c.loop-left.operands c.in_ok-one.one (ahead c.loop-left.here) (ahead c.in-Some.next) (ahead c.in_ok-one.rest)
      (omega (arith, c.loop-left-test.true)) c.in-Some.ensures c.in_ok-one.ensures) ∙ c.loop-left.invariant.same;
  within = omega (arith, c.loop-left.invariant.within);
}

pub terms-loop-left-preserved : goal.terms-loop-left-preserved
terms-loop-left-preserved t c = record {
  same = rw (c.in_ok-push-in-Some-behind.ensures.ok, c.in_ok-negated-in-Some-behind.ensures)
      (turn_minus c.loop-left.left (c.loop-left.left - 1) c.loop-left.operands c.in_ok-one-in-Some-behind.one (ahead c.loop-left.here) (ahead c.in-Some-behind.next) (ahead c.in_ok-one-in-Some-behind.rest)
      (omega (arith, c.loop-left-test.true)) c.in_default.ensures c.in-Some-behind.ensures c.in_ok-one-in-Some-behind.ensures) ∙ c.loop-left.invariant.same;
  within = omega (arith, c.loop-left.invariant.within);
}

pub items-loop-left-preserved : goal.items-loop-left-preserved
items-loop-left-preserved t c = record {
  same = rw c.in_ok-push.ensures.ok
      (turn_items c.loop-left.left (c.loop-left.left - 1) c.loop-left.items c.in_ok-one.one (ahead c.loop-left.here) (ahead c.in-Some.next) (ahead c.in_ok-one.rest)
      (omega (arith, c.loop-left-test.true)) c.in_ok-one.ensures c.in-Some.ensures) ∙ c.loop-left.invariant.same;
  within = omega (arith, c.loop-left.invariant.within);
}

pub logic-returns-in-Some : goal.logic-returns-in-Some
logic-returns-in-Some t c = gives_on _ _ _ _ _ (omega (arith, c.if-fuel-lt8.false)) c.in-Some.ensures.no_not c.in-Some.ensures.no_minus c.in-Some.ensures.is c.begun.ensures

pub grouped-returns-in-Some : goal.grouped-returns-in-Some
grouped-returns-in-Some t c = gives_group _ _ _ _ _ (omega (arith, c.if-fuel-lt8.false)) c.in-Some.ensures.no_not c.in-Some.ensures.no_minus c.in-Some.ensures.is c.opened.ensures
