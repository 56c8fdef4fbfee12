use Rattle.prop_sets.proofs.Asking.{busy_detect}
use Rattle.prop_sets.proofs.sides.answer_late.Goals as goal

pub answer_detect-requires-clause-busy : goal.answer_detect-requires-clause-busy
answer_detect-requires-clause-busy c =
    busy_detect c.args.model.now c.args.asked.now.c c.args.asked.now.p c.args.region.now.region c.args.best c.args.asked.now.members.now c.args.back c.args.rows.now c.args.found.now.place c.args.found.now.set.items
    c.requires.rowed c.requires.found
