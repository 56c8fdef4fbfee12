use Rattle.std.proofs.Common.{sym, arith, ◌∙◌}
use Rattle.std.proofs.lemmas.Int.{ints}
use Rattle.cpo_text.proofs.stating.Surveyed.{survey_turn, after_turn}
use Rattle.cpo_text.proofs.survey.survey_run.Goals as goal

pub loop-token-preserved : goal.loop-token-preserved
loop-token-preserved c =
    let later = c.in-Some.ensures.later in
    record {
      same = rw c.noted-survey.ensures.is (sym (survey_turn c.loop-token.survey _ _ _ c.in-Some.ensures.tokens (sym c.if-is_sign.ensures)) ∙ c.loop-token.invariant.same);
      behind = sym (after_turn _ _ _ c.in-Some.ensures.tokens (sym c.if-is_sign.ensures)) ∙ c.loop-token.invariant.behind;
      low = omega (arith, ints, c.noted-survey.ensures.low, later.0);
      high = omega (arith, ints, c.noted-survey.ensures.high, later.0);
      few = omega (arith, c.noted-survey.ensures.few, later.0);
    }
