-- What `solve` prints of a solution is such a schedule as `verify` accepts.
use Rattle.std.specs.Prelude.{◌≡◌, ◌≤◌, Some}
use Rattle.sched_model.specs.declared.types.Assignment.{Assignment}
use Rattle.sched_model.specs.declared.types.Solved.{Solved}
use Rattle.sched_model.specs.Data.{Data}
use Rattle.sched_model.specs.Solution.{IsSolution}
use Rattle.sched_model.specs.Valid.{IsValid}
use Rattle.sched_text.specs.Answers.{answer_text}
use Rattle.read_schedule.specs.Schedules.{Spells}
use Rattle.solver.specs.Answers.{IsAnswer, shown_in}

-- where an answer is right, counts no more nodes than may be opened, and shows a schedule, its text spells this schedule as it
-- stands, which is a solution
abbrev pub AnswersVerify : Type 0
AnswersVerify = (m : Data) (s : Solved) (a : Assignment) → IsValid m → s.nodes ≤ 10000000 → IsAnswer m s.answer → shown_in s.answer ≡ Some a → Spells m (answer_text m s) a × IsSolution m a
