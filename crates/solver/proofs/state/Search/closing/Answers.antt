use Rattle.std.proofs.Common.{sym, subst}
use Rattle.std.specs.Prelude.{None, IsTrue}
use Rattle.region.specs.Looks.{seen_at}
use Rattle.kernel.specs.Steps.{best_of}
use Rattle.engine.specs.code.Engines.{AreQuiet}
use Rattle.engine.specs.Runs.{Ends}
use Rattle.logtext.specs.Lifted.{refutes_logged}
use Rattle.solver.proofs.logged.Ending.{lifted_refutes, of_more}
use Rattle.solver.proofs.state.Search.closing.Goals as goal

pub close_quiet-requires-clause-quiet : goal.close_quiet-requires-clause-quiet
close_quiet-requires-clause-quiet g c =
    let m = c.args.model.now in
    let r = c.args.self.now.region.region in
    let best = best_of c.args.self.now.found in
    c.requires.covers r best c.requires.ready.holding.of.region (subst (λ stop. Ends (AreQuiet g.P.Propagator m r best) m best r stop) c.in-Quiet.is c.requires.stop)

pub returns-in-Failed-clause-line : goal.returns-in-Failed-clause-line
returns-in-Failed-clause-line g c =
    let m = c.args.model.now in
    let r = c.args.self.now.region.region in
    let best = best_of c.args.self.now.found in
    subst (λ w. IsTrue (refutes_logged m (seen_at r best None) w)) (sym c.lifted.ensures)
    (lifted_refutes m (seen_at r best None) c.in-Failed.w (subst (λ stop. Ends (AreQuiet g.P.Propagator m r best) m best r stop) c.in-Failed.is c.requires.stop))

pub returns-in-Quiet-clause-full : goal.returns-in-Quiet-clause-full
returns-in-Quiet-clause-full g c = of_more c.close_quiet.result _ _ (λ line full k is open_one. full k is) c.close_quiet.ensures.full
