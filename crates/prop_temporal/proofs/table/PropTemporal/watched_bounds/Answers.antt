use Rattle.prop_temporal.proofs.Watching.{no_bounds_watched}
use Rattle.prop_temporal.proofs.table.PropTemporal.watched_bounds.Goals as goal

pub returns-then-k-eq0 : goal.returns-then-k-eq0
returns-then-k-eq0 c = λ m for_it cell bound. no_bounds_watched m c.args.k c.if-k-eq0.true cell bound
