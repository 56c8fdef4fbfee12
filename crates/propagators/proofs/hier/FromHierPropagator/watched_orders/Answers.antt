use Rattle.propagators.proofs.Watching.{hier_orders}
use Rattle.propagators.proofs.hier.FromHierPropagator.watched_orders.Goals as goal

pub returns : goal.returns
returns c = λ m of. hier_orders m c.args.k c.watched_orders.result.now (c.watched_orders.ensures m of)
