use Rattle.std.proofs.Common.{sym, subst}
use Rattle.kernel.specs.Promises.{Means}
use Rattle.kernel.proofs.Readies.{verdict_means}
use Rattle.kernel.proofs.kernel.Kernel.verdict.Goals as goal

pub returns-clause-means : goal.returns-clause-means
returns-clause-means g c = λ m ready. subst (Means m) (sym c.plain_verdict.ensures) (verdict_means m c.args.self.now ready)
