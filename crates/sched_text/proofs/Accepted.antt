-- The first line of what is accepted, in two pieces.
use Rattle.std.proofs.Common.{◌≡◌, ◌∷◌, ◌++◌, codes, Some, None, refl}
use Rattle.sched_model.specs.declared.types.Verdict.{Verdict}
use Rattle.sched_model.specs.declared.types.Verdict.TheVariants.{Optimal, Feasible, Infeasible, Unclosed}
use Rattle.sched_model.specs.Data.{Data}
use Rattle.textline.specs.Lines.{line}
use Rattle.sched_text.specs.Answers.{verdict_words}

pub accepted_line : (m : Data) (v : Verdict) → codes "accepted " ++ line (verdict_words m v) ≡ line (codes "accepted" ∷ verdict_words m v)
accepted_line m (Optimal v) = refl
accepted_line m Feasible = refl
accepted_line m Infeasible = refl
accepted_line m (Unclosed None) = refl
accepted_line m (Unclosed (Some v)) = refl
