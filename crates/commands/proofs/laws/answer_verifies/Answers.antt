use Rattle.commands.proofs.Shown.{answers_verify}
use Rattle.commands.proofs.laws.answer_verifies.Goals as goal

pub returns : goal.returns
returns c = answers_verify c.answer_is_schedule.ensures
