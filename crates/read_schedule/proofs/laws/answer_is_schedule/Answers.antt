use Rattle.read_schedule.proofs.whole.Promised.{answers_are}
use Rattle.read_schedule.proofs.laws.answer_is_schedule.Goals as goal

pub returns : goal.returns
returns c = answers_are
