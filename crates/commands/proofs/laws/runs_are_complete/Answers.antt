use Rattle.commands.proofs.Complete.{runs_are_complete}
use Rattle.commands.proofs.laws.runs_are_complete.Goals as goal

pub returns : goal.returns
returns c = runs_are_complete (record {
  one_answer = c.answer_is_determined.ensures.one;
  written = c.deserved_models_are_written.ensures;
  one_schedule = c.schedule_is_told.ensures;
  not_both = c.judgement_is_determined.ensures.not_both;
  never_too_long = c.judgement_is_determined.ensures.never_too_long;
})
