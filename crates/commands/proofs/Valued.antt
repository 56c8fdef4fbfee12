-- The values that are printed are those of the criteria.
use Rattle.std.proofs.Common.{◌≡◌, ℤ, ◌≤ℤ◌, true, int_le, arith, List, Option, Some, None, option_map, unwrap_or, [], refl, sym, ap, subst, ◌∙◌}
use Rattle.std.proofs.lemmas.Int.{ints}
use Rattle.std.proofs.lemmas.Bool.{and_from}
use Rattle.sched_model.specs.Ranges.{Ends}
use Rattle.sched_model.specs.declared.types.Answer.{Answer}
use Rattle.sched_model.specs.declared.types.Answer.TheVariants.{Optimal, Feasible, Infeasible, Unfinished}
use Rattle.sched_model.specs.declared.types.Assignment.{Assignment}
use Rattle.sched_model.specs.declared.types.Objective.{Objective}
use Rattle.sched_model.specs.Data.{Data}
use Rattle.sched_model.specs.Domain.{is_in_domain}
use Rattle.sched_model.specs.Rank.{values_of, unranked_in}
use Rattle.sched_model.specs.Solution.{objective_of}
use Rattle.sched_model.specs.Valid.{IsValid}
use Rattle.sched_model.specs.Value.{value_of}
use Rattle.sched_model.specs.laws.Better.{aimed, values_told}
use Rattle.sched_model.specs.laws.Domain.{slots_fit}
use Rattle.sched_model.specs.laws.Held.{value_within}
use Rattle.sched_model.specs.laws.Within.{Within}
use Rattle.sched_text.specs.Answers.{numbers_word}
use Rattle.sched_text.specs.Values.{lies_in, IsValue}
use Rattle.solver.specs.Answers.{IsAnswer}
use Rattle.commands.specs.Runs.{TellsValues}

pub tells_values : (m : Data) (answer : Answer) → IsValid m → IsAnswer m answer → TellsValues m answer
tells_values m (Optimal v a) valid right = ap numbers_word (values_told m a v valid right.is_one.solution.domain right.is_one.value)
tells_values m (Feasible a) valid right = tt
tells_values m Infeasible valid right = tt
tells_values m (Unfinished None) valid right = tt
tells_values m (Unfinished (Some va)) valid right = ap numbers_word (values_told m va.1 va.0 valid right.solution.domain right.value)

-- the values of a schedule, from that of the objective's expression
pub values_are : (m : Data) (a : Assignment) (v : Option ℤ) → IsValid m → is_in_domain m a ≡ true → v ≡ objective_of m a → option_map (unranked_in m) v ≡ option_map (values_of a) m.objective
values_are m a v valid domain is = by_objective m.objective refl
  where
    one : {x y : List ℤ} → x ≡ y → Some x ≡ Some y
    one h = ap Some h

    by_objective : (o : Option Objective) → m.objective ≡ o → option_map (unranked_in m) v ≡ option_map (values_of a) m.objective
    by_objective None none =
        ap (option_map (unranked_in m)) (is ∙ ap (option_map (λ p. value_of a p.expr)) none) ∙ sym (ap (option_map (values_of a)) none)
    by_objective (Some o) some =
        let there : objective_of m a ≡ Some (value_of a o.expr) = ap (option_map (λ p. value_of a p.expr)) some in
        let values : unranked_in m (value_of a o.expr) ≡ values_of a o =
        values_told m a (value_of a o.expr) valid domain there ∙ ap (λ q. unwrap_or (option_map (values_of a) q) []) some in
        ap (option_map (unranked_in m)) (is ∙ there) ∙ one values ∙ sym (ap (option_map (values_of a)) some)

-- the value of an assignment is one that the objective may have
pub is_value : (m : Data) (a : Assignment) (v : ℤ) → IsValid m → is_in_domain m a ≡ true → objective_of m a ≡ Some v → IsValue m v
is_value m a v valid domain is = by_objective m.objective refl
  where
    by_objective : (o : Option Objective) → m.objective ≡ o → IsValue m v
    by_objective None none = let wrong : None ≡ Some v = sym (ap (option_map (λ p. value_of a p.expr)) none) ∙ is in absurd (apart v wrong)
      where
        apart : (v : ℤ) → None ≡ Some v → ⊥
        apart v h = cc
    by_objective (Some o) some =
        let k = aimed m o valid some in
        let same : value_of a o.expr ≡ v = value_is (value_of a o.expr) (sym (ap (option_map (λ p. value_of a p.expr)) some) ∙ is) in
        (o, k.ends, some, k.hull, lies k.ends v (subst (Within k.ends) same (value_within m a o.expr k.ends (slots_fit m a domain) k.hull)))
      where
        value_is : (z : ℤ) → Some z ≡ Some v → z ≡ v
        value_is z h = cc

        is_le : (a b : ℤ) → a ≤ℤ b → int_le a b ≡ true
        is_le a b h = grind (arith, ints)

        lies : (r : Ends) (z : ℤ) → Within r z → lies_in r z ≡ true
        lies r z within = and_from (int_le r.0 z) (int_le z r.1) (is_le r.0 z within.low) (is_le z r.1 within.high)
