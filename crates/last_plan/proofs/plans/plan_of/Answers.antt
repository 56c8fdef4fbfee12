use Rattle.std.proofs.Common.{subst}
use Rattle.kernel.specs.Promises.{Means}
use Rattle.last_plan.specs.code.Answers.{IsPlanWith}
use Rattle.last_plan.proofs.Told.{plan_means}
use Rattle.last_plan.proofs.plans.plan_of.Goals as goal

pub returns-clause-means : goal.returns-clause-means
returns-clause-means g c = λ m ready. plan_means m c.args.kernel _ c.args.tally.counts ready (subst (Means m) c.verdict-verdict.ensures.value (c.verdict-verdict.ensures.means m ready)) (subst (λ v. IsPlanWith v c.args.kernel c.args.tally.counts c.plan_with.result) c.verdict-verdict.ensures.value c.plan_with.ensures)
