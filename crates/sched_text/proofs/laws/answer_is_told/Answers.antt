use Rattle.sched_text.specs.laws.Answers.{answers_told}
use Rattle.sched_text.proofs.laws.answer_is_told.Goals as goal

pub returns : goal.returns
returns c = answers_told
