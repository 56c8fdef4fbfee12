-- The text of an answer that is right and shows a schedule.
use Rattle.std.proofs.Common.{◌≡◌, Some, None, subst, arith}
use Rattle.sched_model.specs.declared.types.Answer.{Answer}
use Rattle.sched_model.specs.declared.types.Answer.TheVariants.{Optimal, Feasible, Infeasible, Unfinished}
use Rattle.sched_model.specs.declared.types.Assignment.{Assignment}
use Rattle.sched_model.specs.Data.{Data}
use Rattle.sched_model.specs.Solution.{IsSolution}
use Rattle.sched_model.specs.Valid.{IsValid}
use Rattle.read_schedule.specs.Promises.{AnswersAreSchedules, Shows}
use Rattle.solver.specs.Answers.{IsAnswer, shown_in}
use Rattle.commands.specs.AnswersVerify.{AnswersVerify}
use Rattle.commands.proofs.Valued.{is_value}

shows : (m : Data) (answer : Answer) (a : Assignment) → IsValid m → IsAnswer m answer → shown_in answer ≡ Some a → Shows m answer a × IsSolution m a
shows m (Optimal v b) a valid right shown =
    let same : b ≡ a = cc in
    let one = right.is_one in
    ((is_value m b v valid one.solution.domain one.value, same), subst (IsSolution m) same one.solution)
shows m (Feasible b) a valid right shown = let same : b ≡ a = cc in (same, subst (IsSolution m) same right.solution)
shows m Infeasible a valid right shown = absurd cc
shows m (Unfinished None) a valid right shown = absurd cc
shows m (Unfinished (Some va)) a valid right shown =
    let same : va.1 ≡ a = cc in
    ((is_value m va.1 va.0 valid right.solution.domain right.value, same), subst (IsSolution m) same right.solution)

pub answers_verify : AnswersAreSchedules → AnswersVerify
answers_verify told m s a valid few right shown = let both = shows m s.answer a valid right shown in (told m s a valid (omega (arith, few)) both.0 both.1.domain, both.1)
