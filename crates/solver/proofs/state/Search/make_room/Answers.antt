use Rattle.std.proofs.Common.{sym, subst}
use Rattle.region.specs.code.Held.{Held}
use Rattle.solver.specs.declared.state.Search.{Search}
use Rattle.solver.specs.code.Searching.{IsReady}
use Rattle.solver.proofs.kept.Keeping.{roomy_ready}
use Rattle.solver.proofs.state.Search.make_room.Goals as goal

pub returns-clause-ready : goal.returns-clause-ready
returns-clause-ready g c = λ m ready.
    subst (λ (h : Held). let t : Search g.row.P.Denot = record c.args.self.now { region = h } in IsReady g.P.Propagator m t) (sym c.reserve.ensures.same)
    (roomy_ready g.P.Propagator m c.args.self.now c.reserve.new.self.spare ready)
