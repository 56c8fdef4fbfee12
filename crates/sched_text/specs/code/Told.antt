-- What the text of an answer tells.
use Rattle.std.specs.Prelude.{◌≡◌, ◌^◌, ◌<◌, IsTrue, Some, None}
use Rattle.sched_model.specs.declared.types.Answer.{Answer}
use Rattle.sched_model.specs.declared.types.Answer.TheVariants.{Optimal, Feasible, Infeasible, Unfinished}
use Rattle.sched_model.specs.declared.types.Solved.{Solved}
use Rattle.sched_model.specs.Data.{Data}
use Rattle.sched_model.specs.Domain.{is_in_domain}
use Rattle.sched_model.specs.Valid.{IsValid}
use Rattle.sched_text.specs.Answers.{answer_text}
use Rattle.sched_text.specs.Values.{IsValue}

-- a number that the objective may have, beside an assignment in the domain
abbrev pub IsPrintable : Data → Answer → Type 0
IsPrintable m (Optimal v a) = IsValue m v × IsTrue (is_in_domain m a)
IsPrintable m (Feasible a) = IsTrue (is_in_domain m a)
IsPrintable m Infeasible = Unit {0}
IsPrintable m (Unfinished None) = Unit {0}
IsPrintable m (Unfinished (Some va)) = IsValue m va.0 × IsTrue (is_in_domain m va.1)

-- answers with one text are one answer
abbrev pub AnswersAreTold : Type 0
AnswersAreTold = (m : Data) (s t : Solved) → IsValid m → s.nodes < 2 ^ 64 → t.nodes < 2 ^ 64 → IsPrintable m s.answer → IsPrintable m t.answer → answer_text m s ≡ answer_text m t → s ≡ t
