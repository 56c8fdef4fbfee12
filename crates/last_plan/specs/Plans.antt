-- What is told of a log that is whole, or was cut, and what that means of its model.
use Rattle.std.specs.Prelude.{◌≡◌, ◌⊎◌, ◌++◌, ℤ, List, Option, Some, None, option_map, IfSome}
use Rattle.sched_model.specs.declared.types.Answer.{Answer}
use Rattle.sched_model.specs.declared.types.Answer.TheVariants.{Optimal, Feasible, Infeasible, Unfinished}
use Rattle.sched_model.specs.declared.types.Assignment.{Assignment}
use Rattle.sched_model.specs.declared.types.Verdict.{Verdict}
use Rattle.sched_model.specs.declared.types.Verdict.TheVariants as verdict
use Rattle.sched_model.specs.Answers.{verdict_in}
use Rattle.sched_model.specs.Data.{Data}
use Rattle.sched_model.specs.Solution.{IsSolution, objective_of}
use Rattle.textline.specs.Lines.{Bytes}
use Rattle.kernel.specs.Steps.{LogState, verdict_of}
use Rattle.kernel.specs.Promises.{Means}
use Rattle.logtext.specs.declared.version.Version.{Version}
use Rattle.logtext.specs.Spelling.{head_text}
use Rattle.logtext.specs.Reading.{HasNoWholeLine}
use Rattle.logtext.specs.Logs.{PlainLine, IsPlainLog, plain_lines, plain_log, MayHold}
use Rattle.replay.specs.LastSchedule.{last_schedule}
use Rattle.last_plan.specs.declared.plans.Plan.{Plan}
use Rattle.last_plan.specs.Counted.{counts_of}

-- the schedule in an answer
abbrev pub schedule_shown : Answer → Option Assignment
schedule_shown (Optimal v a) = Some a
schedule_shown (Feasible a) = Some a
schedule_shown Infeasible = None
schedule_shown (Unfinished found) = option_map (λ va. va.1) found

-- the value beside it
abbrev pub value_beside : Verdict → Option ℤ
value_beside (verdict.Optimal v) = Some v
value_beside verdict.Feasible = None
value_beside verdict.Infeasible = None
value_beside (verdict.Unclosed best) = best

-- these lines are all of the bytes, or all but the beginning of one more
abbrev pub IsFront : Version → List PlainLine → Bytes → Type 0
IsFront version lines bytes = (bytes ≡ plain_log version lines) ⊎ ((rest : Bytes) × (bytes ≡ head_text version ++ (plain_lines lines ++ rest)) × HasNoWholeLine rest)

-- The bytes are a log of the model, or the front of one. The plan has the verdict that its lines show, the count of nodes, the
-- schedule of the last solution among them, and their counts.
pub record ShowsPlan (m : Data) (bytes : Bytes) (p : Plan) : Type 0 where
  pub version : Version
  pub lines : List PlainLine
  pub suits : MayHold version lines
  pub state : LogState
  pub log : IsPlainLog m lines state
  pub front : IsFront version lines bytes
  pub verdict : verdict_in p.solved.answer ≡ verdict_of state
  pub nodes : p.solved.nodes ≡ state.nodes
  pub schedule : schedule_shown p.solved.answer ≡ last_schedule lines
  pub counts : p.counts ≡ counts_of m lines

-- what the verdict says of the model is so, and the schedule is a solution of the value beside it
pub record PlanMeans (m : Data) (p : Plan) : Type 0 where
  pub verdict : Means m (verdict_in p.solved.answer)
  pub solution : IfSome (schedule_shown p.solved.answer) (λ a. IsSolution m a × (objective_of m a ≡ value_beside (verdict_in p.solved.answer)))
