use Rattle.std.proofs.Common.{sym, subst}
use Rattle.solver.specs.declared.state.Search.{Search}
use Rattle.solver.specs.code.OpenIntervals.{OpenList}
use Rattle.solver.specs.code.Searching.{IsHolding}
use Rattle.solver.proofs.rehearsal.Rehearsal.begin.Goals as goal

pub restart-requires : goal.restart-requires
restart-requires g c = subst (λ (xs : OpenList). let t : Search g.row.P.Denot = record c.args.self.now.search { intervals = xs } in IsHolding g.P.Propagator c.args.model.now t) (sym c.follow.ensures) c.requires
