-- The statements of a generated text are judged as the canonical ones of its model, which only spell out more.
use Rattle.std.proofs.Common.{◌≡◌, ℕ, ◌+◌, ◌-◌, ◌%◌, ◌^◌, ◌||◌, ◌&&◌, not, pos, false, List, [], ◌∷◌, map, nat_le, nat_lt, is_none, Some, None, refl, sym, ap, subst, ◌∙◌}
use Rattle.std.specs.List.{range_with_len}
use Rattle.base_laws.specs.laws.Numbers.{at_most}
use Rattle.base_laws.specs.laws.Truth.{five_true}
use Rattle.sched_model.specs.Data.{Data}
use Rattle.cpo_elab.specs.Stages.{Stage, empty_stage}
use Rattle.sched_model.specs.Hull.{hull_of}
use Rattle.sched_model.specs.Valid.{node_count, node_total}
use Rattle.cpo_text.specs.declared.expression.Measure.TheVariants as measure
use Rattle.cpo_text.specs.declared.expression.Gather.TheVariants as gather
use Rattle.cpo_text.specs.declared.expression.Logic.{Logic}
use Rattle.cpo_text.specs.declared.expression.Logic.TheViews.{roll-Logic}
use Rattle.cpo_text.specs.declared.expression.Logic.TheOpen.{Logic-F, Logic-F as logic}
use Rattle.cpo_text.specs.declared.expression.Logic.TheFolds.{fold-Logic, fold-roll-Logic}
use Rattle.cpo_text.specs.declared.tree.Sense.TheVariants as sense
use Rattle.cpo_text.specs.declared.tree.Statement.{Statement}
use Rattle.cpo_text.specs.declared.tree.Statement.TheVariants.{Aim}
use Rattle.cpo_elab.specs.Named.{NameTest, logic_step, some_in_logic}
use Rattle.cpo_elab.specs.Elaborated.{expr_of, expr_step, sense_of}
use Rattle.cpo_elab.specs.Factors.{factor_of, factor_step}
use Rattle.cpo_elab.specs.Judged.{is_unknown, is_of_other_sort, defines_again, has_reversed, has_negative, misfits, has_twice, is_wide, statement_limit, node_limit, aims_again, is_crowded, first_of, number_in}
use Rattle.modelgen.specs.Generated.{name}
use Rattle.read_back.specs.Trees.{int_tree, interval_tree, canonical_statements}
use Rattle.generated_models.specs.Shops.{interval, interval_statement, order_statement, machine_statement, end_tree, objective_statement, shop_model, shop_statements}
use Rattle.generated_models.specs.Laws.{ShopsAreJudged}
use Rattle.generated_models.proofs.deserving.Alike.{Alike, AllAlike, alike_both, alike_each, alike_lists, judged_alike}
use Rattle.generated_models.proofs.shop.Looked.{order_spelt, end_spelt, objective_spelt, shop_spelt, spelt_out}

interval_alike : (x machines j k : ℕ) → Alike (interval_statement x machines j k) (interval_tree (interval x machines j k))
unfolding number_in
interval_alike x machines j k = record { number = λ st n. refl; stage = λ st. refl }

order_alike : (j k : ℕ) → Alike (order_statement j k) (order_spelt j k)
unfolding number_in
order_alike j k = record { number = λ st n. refl; stage = λ st. refl }

itself : (s : Statement) → Alike s s
itself s = record { number = λ st n. refl; stage = λ st. refl }

-- a fold to which a distance of 0 is as none

module _ {A : Type 0} (step : Logic-F A → A) (same : (n : List ℕ) → step (logic.Measured measure.EndOf n None) ≡ step (logic.Measured measure.EndOf n (Some (int_tree (pos 0))))) where
  ends_same : (machines : ℕ) (js : List ℕ) → map (fold-Logic A step) (map (end_tree machines) js) ≡ map (fold-Logic A step) (map (end_spelt machines) js)
  ends_same machines [] = refl
  ends_same machines (j ∷ js) =
      let here = fold-roll-Logic A step (logic.Measured measure.EndOf (name j (machines - 1)) None) ∙ same (name j (machines - 1)) ∙ sym (fold-roll-Logic A step (logic.Measured measure.EndOf (name j (machines - 1)) (Some (int_tree (pos 0))))) in
      let rest = ends_same machines js in
      λ i. here i ∷ rest i

  pub greatest_same : (machines : ℕ) (js : List ℕ) → fold-Logic A step (roll-Logic (logic.Gathered gather.Max (map (end_tree machines) js))) ≡ fold-Logic A step (roll-Logic (logic.Gathered gather.Max (map (end_spelt machines) js)))
  greatest_same machines js =
      fold-roll-Logic A step (logic.Gathered gather.Max (map (end_tree machines) js))
      ∙ ap (λ (xs : List A). step (logic.Gathered gather.Max xs)) (ends_same machines js)
      ∙ sym (fold-roll-Logic A step (logic.Gathered gather.Max (map (end_spelt machines) js)))

objective_number : (st : Stage) (k : ℕ) (e f : Logic) → ((test : NameTest) → some_in_logic test e ≡ some_in_logic test f) → expr_of st.model e ≡ expr_of st.model f → factor_of e ≡ factor_of f
    → number_in st k (Aim sense.Minimize e) ≡ number_in st k (Aim sense.Minimize f)
unfolding number_in
objective_number st k e f names expr factor =
    let m = st.model in
    let unknown = names (is_unknown st) in
    let other = names (is_of_other_sort m) in
    λ i. first_of
    ((defines_again st (Aim sense.Minimize e), 4) ∷ (unknown i, 5) ∷ (other i || false, 6) ∷ (has_reversed (Aim sense.Minimize e), 7) ∷ (has_negative (Aim sense.Minimize e), 8) ∷ (misfits m (Aim sense.Minimize e), 9)
    ∷ (has_twice m (Aim sense.Minimize e), 10) ∷ (nat_lt statement_limit k || (is_wide (Aim sense.Minimize e) || not (nat_le 0 500 && nat_le (node_total m + node_count (expr i)) node_limit)), 11)
    ∷ (aims_again m (Aim sense.Minimize e), 12) ∷ (is_none (hull_of m (expr i)), 13) ∷ (is_crowded (factor i) || false, 14) ∷ [])

objective_alike : (jobs machines : ℕ) → Alike (objective_statement jobs machines) (objective_spelt jobs machines)
objective_alike jobs machines =
    let js = range_with_len 0 jobs in
    let e = roll-Logic (logic.Gathered gather.Max (map (end_tree machines) js)) in
    let f = roll-Logic (logic.Gathered gather.Max (map (end_spelt machines) js)) in
    let names = λ (test : NameTest). greatest_same (logic_step test) (λ n. refl) machines js in
    let expr = λ (m : Data). greatest_same (expr_step m) (λ n. refl) machines js in
    let factor = greatest_same factor_step (λ n. refl) machines js in
    record {
      number = λ st k. objective_number st k e f names (expr st.model) factor;
      stage = λ st. ap (λ x. record st { model = record st.model { objective = Some (record { sense = sense_of sense.Minimize; expr = x; criteria = [] }) } }) (expr st.model);
    }

all_alike : (seed jobs machines : ℕ) → AllAlike (shop_statements seed jobs machines) (shop_spelt seed jobs machines)
all_alike seed jobs machines =
    let x = seed % 2 ^ 31 in
    let intervals = alike_lists (λ j. map (interval_statement x machines j) (range_with_len 0 machines)) (λ j. map (λ k. interval_tree (interval x machines j k)) (range_with_len 0 machines))
    (λ j. alike_each (interval_statement x machines j) (λ k. interval_tree (interval x machines j k)) (λ k. interval_alike x machines j k) (range_with_len 0 machines)) (range_with_len 0 jobs) in
    let orders = alike_lists (λ j. map (order_statement j) (range_with_len 1 (machines - 1))) (λ j. map (order_spelt j) (range_with_len 1 (machines - 1)))
    (λ j. alike_each (order_statement j) (order_spelt j) (order_alike j) (range_with_len 1 (machines - 1))) (range_with_len 0 jobs) in
    let overlaps = alike_each (machine_statement jobs machines) (machine_statement jobs machines) (λ q. itself (machine_statement jobs machines q)) (range_with_len 0 machines) in
    alike_both _ _ _ _ (alike_both _ _ _ _ (alike_both _ _ _ _ intervals orders) overlaps) (objective_alike jobs machines, tt)

pub shops_are_judged : ShopsAreJudged
shops_are_judged seed jobs machines xs ys within are those is =
    let some = at_most 1 machines (five_true (nat_le 1 jobs) (nat_le jobs 500) (nat_le 1 machines) _ _ within).2 in
    judged_alike empty_stage 1 (shop_statements seed jobs machines) (canonical_statements (shop_model seed jobs machines)) xs ys (shop_model seed jobs machines)
    (subst (AllAlike (shop_statements seed jobs machines)) (sym (spelt_out seed jobs machines some)) (all_alike seed jobs machines)) are those is
