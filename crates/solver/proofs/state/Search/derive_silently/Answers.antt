use Rattle.std.proofs.Common.{subst}
use Rattle.engine.specs.code.Engines.{IsCalm}
use Rattle.solver.proofs.cutting.Fixing.{derives_keep}
use Rattle.solver.proofs.kept.Keeping.{derived_ready}
use Rattle.solver.proofs.state.Search.derive_silently.Goals as goal

pub returns-in-Ok-clause-ready : goal.returns-in-Ok-clause-ready
returns-in-Ok-clause-ready g c =
    let run = c.run.ensures in
    derived_ready g.P.Propagator c.args.model.now c.args.self.now c.run.new.region c.run.new.self c.requires (derives_keep c.in-Ok.ensures.ran.led.derive) run.of run.saved run.promised run.made
    (subst (λ b. IsCalm g.P.Propagator c.args.model.now c.run.new.region.region b c.run.new.self) c.best-best.ensures run.calm)
