use Rattle.std.proofs.Common.{◌≡◌, ◌≤◌, ◌-◌, pos, neg_ℤ, ◌≤ℤ◌}
use Rattle.cpo_text.specs.code.Places.{left}
use Rattle.cpo_text.specs.code.Surveys.{unsurveyed, surveyed, after_run}
use Rattle.cpo_text.proofs.survey.survey_run.Given as goal

abbrev pub invariant-loop-token : goal.invariant-loop-token
invariant-loop-token l = record {
  same : surveyed l.survey (left l.here) ≡ surveyed unsurveyed (left l.fn.place);
  behind : after_run (left l.here) ≡ after_run (left l.fn.place);
  low : neg_ℤ (pos l.here.at) ≤ℤ l.survey.depth;
  high : l.survey.depth ≤ℤ pos l.here.at;
  few : l.survey.nestings ≤ l.here.at;
}

abbrev pub decreases-loop-token : goal.decreases-loop-token
decreases-loop-token l = 16777216 - l.here.at
