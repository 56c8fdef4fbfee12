use Rattle.std.proofs.Common.{sym, subst}
use Rattle.kernel.specs.code.Open.{AreOpenOf}
use Rattle.kernel.proofs.kernel.Kernel.into_open.Goals as goal

pub returns-clause-of : goal.returns-clause-of
returns-clause-of g c = λ m ready. subst (AreOpenOf m) (sym c.plain_into_open.ensures) ready.regions
