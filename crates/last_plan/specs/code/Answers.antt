-- The answer that is made of a state.
use Rattle.std.specs.Prelude.{◌≡◌, Option, Some, None}
use Rattle.sched_model.specs.declared.types.Answer.{Answer}
use Rattle.sched_model.specs.declared.types.Answer.TheVariants.{Optimal, Feasible, Infeasible, Unfinished}
use Rattle.sched_model.specs.declared.types.Assignment.{Assignment}
use Rattle.sched_model.specs.declared.types.Verdict.{Verdict}
use Rattle.sched_model.specs.declared.types.Verdict.TheVariants as verdict
use Rattle.kernel.specs.Steps.{LogState, verdict_of}
use Rattle.replay.specs.LastSchedule.{found_schedule}
use Rattle.last_plan.specs.declared.counts.Counts.{Counts}
use Rattle.last_plan.specs.declared.plans.Plan.{Plan}

abbrev pub answer_of : Verdict → Option Assignment → Answer
answer_of (verdict.Optimal v) None = Infeasible
answer_of (verdict.Optimal v) (Some a) = Optimal v a
answer_of verdict.Feasible None = Infeasible
answer_of verdict.Feasible (Some a) = Feasible a
answer_of verdict.Infeasible None = Infeasible
answer_of verdict.Infeasible (Some a) = Infeasible
answer_of (verdict.Unclosed best) None = Unfinished None
answer_of (verdict.Unclosed None) (Some a) = Unfinished None
answer_of (verdict.Unclosed (Some v)) (Some a) = Unfinished (Some (v, a))

-- what a state with this verdict, and counts, show
pub record IsPlanWith (v : Verdict) (s : LogState) (counts : Counts) (p : Plan) : Type 0 where
  pub answer : p.solved.answer ≡ answer_of v (found_schedule s.found)
  pub nodes : p.solved.nodes ≡ s.nodes
  pub counts_same : p.counts ≡ counts

-- with its own verdict
abbrev pub IsPlanOf : LogState → Counts → Plan → Type 0
IsPlanOf s counts p = IsPlanWith (verdict_of s) s counts p
