use Rattle.std.proofs.Common.{arith}
use Rattle.look_hull.proofs.Known.{listed_within}
use Rattle.look_hull.proofs.intervals.known.Goals as goal

pub returns-clause-some : goal.returns-clause-some
returns-clause-some c = listed_within c.args.model.now c.args.look.now.region c.args.x c.bounds.result c.requires (omega arith) c.bounds.ensures.value c.bounds.ensures.moments
