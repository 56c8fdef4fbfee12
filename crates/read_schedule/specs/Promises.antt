-- What schedule texts tell, and which answers are such texts.
use Rattle.std.specs.Prelude.{◌≡◌, ◌^◌, ◌≤◌, true, Some, None}
use Rattle.sched_model.specs.declared.types.Answer.{Answer}
use Rattle.sched_model.specs.declared.types.Answer.TheVariants.{Optimal, Feasible, Infeasible, Unfinished}
use Rattle.sched_model.specs.declared.types.Solved.{Solved}
use Rattle.sched_model.specs.declared.types.Assignment.{Assignment}
use Rattle.sched_model.specs.Data.{Data}
use Rattle.sched_model.specs.Domain.{is_in_domain}
use Rattle.sched_model.specs.Valid.{IsValid}
use Rattle.textline.specs.Lines.{Bytes}
use Rattle.sched_text.specs.Values.{IsValue}
use Rattle.sched_text.specs.Answers.{answer_text}
use Rattle.read_schedule.specs.Schedules.{Spells}

-- a text spells one assignment at most
abbrev pub SchedulesAreTold : Type 0
SchedulesAreTold = (m : Data) (bytes : Bytes) (a b : Assignment) → IsValid m → Spells m bytes a → Spells m bytes b → a ≡ b

-- the answer shows this assignment, beside a value that the objective may have where it has one
abbrev pub Shows : Data → Answer → Assignment → Type 0
Shows m (Optimal v a) b = IsValue m v × (a ≡ b)
Shows m (Feasible a) b = a ≡ b
Shows m Infeasible b = ⊥
Shows m (Unfinished None) b = ⊥
Shows m (Unfinished (Some va)) b = IsValue m va.0 × (va.1 ≡ b)

-- the text of such an answer is a schedule text
abbrev pub AnswersAreSchedules : Type 0
AnswersAreSchedules = (m : Data) (s : Solved) (a : Assignment) → IsValid m → s.nodes ≤ 2 ^ 62 → Shows m s.answer a → is_in_domain m a ≡ true → Spells m (answer_text m s) a
