use Rattle.cpo_text.specs.code.Gives.{ahead}
use Rattle.cpo_text.specs.code.Places.{left}
use Rattle.cpo_text.proofs.stating.Forms.{early_number, outside_number, large_number, parsed}
use Rattle.cpo_text.proofs.pieces.Shorts.{left_short}
use Rattle.cpo_text.proofs.whole.read_form.Goals as goal

pub returns-in-Some-clause-form : goal.returns-in-Some-clause-form
returns-in-Some-clause-form c = early_number (left c.args.place) _ _ c.survey_run.ensures.survey c.in-Some.ensures

pub returns-in-Err-Outside-clause-form : goal.returns-in-Err-Outside-clause-form
unfolding ahead
returns-in-Err-Outside-clause-form c = outside_number (left c.args.place) _ c.survey_run.ensures.survey c.in_default.ensures (left_short c.args.place c.args.place.short) (rw c.in-Err-Outside.field-0-is at c.in-Err-Outside.ensures)

pub returns-then-survey-clause-form : goal.returns-then-survey-clause-form
unfolding ahead
returns-then-survey-clause-form c = large_number (left c.args.place) _ _ _ c.survey_run.ensures.survey c.in_default.ensures c.in-Ok.ensures c.if-survey.true

pub returns-else-survey-clause-form : goal.returns-else-survey-clause-form
unfolding ahead
returns-else-survey-clause-form c = parsed (left c.args.place) _ _ _ c.survey_run.ensures.survey c.in_default.ensures c.in-Ok.ensures c.if-survey.false
