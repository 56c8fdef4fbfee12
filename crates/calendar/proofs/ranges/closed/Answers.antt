use Rattle.calendar.proofs.Walk.{told_closed, told_few}
use Rattle.calendar.proofs.ranges.closed.Goals as goal

pub returns-clause-meaning : goal.returns-clause-meaning
returns-clause-meaning c = told_closed c.args.f.now.pairs c.as_slice.result.now c.walk.result c.as_slice.ensures c.requires.steps c.walk.ensures

pub returns-clause-few : goal.returns-clause-few
returns-clause-few c = told_few c.args.f.now.pairs c.as_slice.result.now c.walk.result c.as_slice.ensures c.requires.steps c.walk.ensures
