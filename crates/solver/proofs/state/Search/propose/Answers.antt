use Rattle.std.proofs.Common.{sym, subst}
use Rattle.region.specs.Looks.{Seen}
use Rattle.solver.specs.code.OpenIntervals.{OpenList, IsOpenList, Sifts}
use Rattle.solver.proofs.kept.Keeping.{sifted_ready}
use Rattle.solver.proofs.state.Search.propose.Goals as goal

pub returns-clause-ready : goal.returns-clause-ready
returns-clause-ready g c =
    sifted_ready g.P.Propagator c.args.model.now c.args.self.now c.offer.new.self c.requires
    (subst (λ (o : OpenList). IsOpenList c.args.self.now.region.region o) (sym c.offer.ensures) (subst (λ (l : Seen). IsOpenList l.region c.sift-cut.new.self) c.look.ensures.value c.sift-cut.ensures.«open»))
    (subst (λ (o : OpenList). Sifts c.args.self.now.intervals o) (sym c.offer.ensures) c.sift-cut.ensures.sifts)
