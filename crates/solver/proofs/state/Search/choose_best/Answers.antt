use Rattle.std.proofs.Common.{sym, ap, subst}
use Rattle.std.specs.Prelude.{IfSome, IfNone, IsTrue}
use Rattle.std.specs.List.{list_all}
use Rattle.region.specs.Cells.{Region, is_fixed, is_settled}
use Rattle.kernel.specs.Steps.{best_of}
use Rattle.engine.specs.code.Engines.{AreQuiet}
use Rattle.solver.specs.declared.state.Search.{Search}
use Rattle.solver.specs.code.Searching.{CutsRegion}
use Rattle.solver.proofs.kept.Silent.{chosen_then}
use Rattle.solver.proofs.state.Search.choose_best.Goals as goal

pub best_pick-requires : goal.best_pick-requires
best_pick-requires g c = record {
  ready = c.propose-cut.ensures.ready;
  quiet = subst (λ (u : Search g.row.P.Denot). AreQuiet g.P.Propagator c.args.model.now u.region.region (best_of u.found)) (sym c.propose-cut.ensures.same) c.requires.quiet;
}

pub pick-requires-clause-cut : goal.pick-requires-clause-cut
pick-requires-clause-cut g c =
    let whole = chosen_then c.args.self.now c.propose-cut.new.self c.best_pick.new.self c.propose-cut.ensures.same c.in_ok-picked.ensures.same in
    subst (λ (r : Region). IfSome c.propose-cut.result (CutsRegion r)) (sym (ap (λ u. u.region.region) whole)) c.propose-cut.ensures.some

pub pick-requires-clause-fixed : goal.pick-requires-clause-fixed
pick-requires-clause-fixed g c =
    let whole = chosen_then c.args.self.now c.propose-cut.new.self c.best_pick.new.self c.propose-cut.ensures.same c.in_ok-picked.ensures.same in
    subst (λ (r : Region). IfNone c.propose-cut.result (IsTrue (list_all is_fixed r.bounds))) (sym (ap (λ u. u.region.region) whole)) c.propose-cut.ensures.none

pub returns-clause-same : goal.returns-clause-same
returns-clause-same g c = chosen_then c.args.self.now c.propose-cut.new.self c.best_pick.new.self c.propose-cut.ensures.same c.in_ok-picked.ensures.same

pub returns-clause-some : goal.returns-clause-some
returns-clause-some g c =
    let whole = chosen_then c.args.self.now c.propose-cut.new.self c.best_pick.new.self c.propose-cut.ensures.same c.in_ok-picked.ensures.same in
    subst (λ (r : Region). IfSome c.pick.result (CutsRegion r)) (ap (λ u. u.region.region) whole) c.pick.ensures.some

pub returns-clause-none : goal.returns-clause-none
returns-clause-none g c =
    let whole = chosen_then c.args.self.now c.propose-cut.new.self c.best_pick.new.self c.propose-cut.ensures.same c.in_ok-picked.ensures.same in
    subst (λ (r : Region). IfNone c.pick.result (IsTrue (is_settled r))) (ap (λ u. u.region.region) whole) c.pick.ensures.none
