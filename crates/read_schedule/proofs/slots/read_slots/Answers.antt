use Rattle.read_schedule.proofs.spelling.Spelled.{interval_words}
use Rattle.read_schedule.proofs.slots.read_slots.Goals as goal

pub read_all-requires-clause-names : goal.read_all-requires-clause-names
read_all-requires-clause-names c = interval_words c.args.model.now c.intervals.result.now c.intervals.ensures.valid c.intervals.ensures.list
