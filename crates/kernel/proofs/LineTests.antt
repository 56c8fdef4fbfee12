-- The tests of a line.
use Rattle.std.proofs.Common.{◌≡◌, ℤ, false, None, Some, sym, ap, ◌∙◌}
use Rattle.std.specs.Prelude.{option_map}
use Rattle.sched_model.specs.declared.types.Assignment.{Assignment}
use Rattle.sched_model.specs.declared.types.Objective.{Objective}
use Rattle.sched_model.specs.Words.{passes}
use Rattle.sched_model.specs.Data.{Data}
use Rattle.sched_model.specs.Value.{value_of}
use Rattle.sched_model.specs.Solution.{is_better, beats, objective_of}

-- better by the value of the objective
pub no_value : (m : Data) (o : Objective) (a : Assignment) (best : ℤ) → m.objective ≡ Some o → None ≡ objective_of m a → false ≡ is_better m (Some best) a
no_value m o a best is none = cc

pub beats_best : (m : Data) (o : Objective) (a : Assignment) (v best : ℤ) → m.objective ≡ Some o → Some v ≡ objective_of m a → beats o.sense v best ≡ is_better m (Some best) a
beats_best m o a v best is value =
    let at : Some v ≡ Some (value_of a o.expr) = value ∙ ap (option_map (λ p. value_of a p.expr)) is in
    let same : v ≡ value_of a o.expr = cc in
    ap (λ z. beats o.sense z best) same ∙ sym (ap (passes (λ p. beats p.sense (value_of a p.expr) best)) is)
