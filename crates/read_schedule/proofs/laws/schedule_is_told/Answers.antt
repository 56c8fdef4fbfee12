use Rattle.read_schedule.proofs.whole.Promised.{schedules_told}
use Rattle.read_schedule.proofs.laws.schedule_is_told.Goals as goal

pub returns : goal.returns
returns c = schedules_told
