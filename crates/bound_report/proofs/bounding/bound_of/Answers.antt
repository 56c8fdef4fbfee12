use Rattle.bound_report.proofs.Reached.{best_bounds}
use Rattle.bound_report.proofs.bounding.bound_of.Goals as goal

pub returns : goal.returns
returns g c = best_bounds c.args.model.now c.args.kernel c.in-Some.objective.now c.best-best.result c.best_over.result c.into_open.result c.in-Some.ensures.same c.best-best.ensures c.into_open.ensures.value c.best_over.ensures
