-- The names that the model of a job shop has at its ids, and its canonical statements spelt out.
use Rattle.std.proofs.Common.{◌≡◌, ℕ, zero, suc, ◌+◌, ◌-◌, ◌%◌, ◌^◌, ◌<◌, ◌≤◌, ◌==◌, pos, Bool, true, false, cond, List, [], ◌∷◌, ◌++◌, map, filter, Some, None, option_map, unwrap_or, refl, sym, ap, ◌∙◌, arith}
use Rattle.std.specs.List.{range_with_len, filter_map}
use Rattle.std.proofs.lemmas.List.{map-append, append-nil, append_assoc}
use Rattle.sched_model.specs.Data.{Data}
use Rattle.sched_model.specs.declared.types.SequenceDef.{SequenceDef}
use Rattle.sched_model.specs.declared.types.Constraint.TheVariants as constraint
use Rattle.sched_model.specs.declared.types.Expr.TheOpen.{Expr-F as expr}
use Rattle.sched_model.specs.declared.types.Expr.TheFolds.{fold-roll-Expr}
use Rattle.sched_model.specs.declared.types.Expr.TheViews.{roll-Expr}
use Rattle.cpo_text.specs.declared.expression.Measure.TheVariants as measure
use Rattle.cpo_text.specs.declared.expression.Gather.TheVariants as gather
use Rattle.cpo_text.specs.declared.expression.Logic.{Logic}
use Rattle.cpo_text.specs.declared.expression.Logic.TheViews.{roll-Logic}
use Rattle.cpo_text.specs.declared.expression.Logic.TheOpen.{Logic-F as logic}
use Rattle.cpo_text.specs.declared.tree.Temporal.TheVariants as temporal
use Rattle.cpo_text.specs.declared.tree.Over.TheVariants as over
use Rattle.cpo_text.specs.declared.tree.Constrained.TheVariants as constrained
use Rattle.cpo_text.specs.declared.tree.Sense.TheVariants as sense
use Rattle.cpo_text.specs.declared.tree.Statement.{Statement}
use Rattle.cpo_text.specs.declared.tree.Statement.TheVariants.{Constrain, Aim}
use Rattle.sched_text.specs.Pieces.{interval_name, interval_names}
use Rattle.modelgen.specs.Generated.{name, operations_on}
use Rattle.read_back.specs.Trees.{Told, told, told_step, wholes, int_tree, interval_tree, sequence_tree, constraint_tree, named_or_listed, canonical_statements}
use Rattle.generated_models.specs.Shops.{by_jobs, interval, operation, sequence, order, last_end, shop_model, machine_statement}
use Rattle.generated_models.proofs.shop.Lists.{same_made, same_joined, made_of_made, made_of_joined, at_number, at_block}

-- an operation has the name of its job and its place
pub named : (seed jobs machines j k : ℕ) → j < jobs → k < machines → interval_name (shop_model seed jobs machines) (operation machines j k) ≡ name j k
named seed jobs machines j k low less =
    let none : 0 + j ≡ j = omega arith in
    ap (λ o. unwrap_or (option_map (λ d. d.name) o) []) (at_block (interval (seed % 2 ^ 31) machines) machines 0 jobs j k low less) ∙ ap (λ i. name i k) none

-- what is spelt out in the canonical statements

abbrev pub order_spelt : ℕ → ℕ → Statement
order_spelt j k = Constrain (constrained.Between temporal.EndBeforeStart (name j (k - 1)) (name j k) (Some (int_tree (pos 0))))

abbrev pub end_spelt : ℕ → ℕ → Logic
end_spelt machines j = roll-Logic (logic.Measured measure.EndOf (name j (machines - 1)) (Some (int_tree (pos 0))))

abbrev pub objective_spelt : ℕ → ℕ → Statement
objective_spelt jobs machines = Aim sense.Minimize (roll-Logic (logic.Gathered gather.Max (map (end_spelt machines) (range_with_len 0 jobs))))

abbrev pub shop_spelt : ℕ → ℕ → ℕ → List Statement
shop_spelt seed jobs machines =
    by_jobs jobs (λ j. map (λ k. interval_tree (interval (seed % 2 ^ 31) machines j k)) (range_with_len 0 machines))
    ++ by_jobs jobs (λ j. map (order_spelt j) (range_with_len 1 (machines - 1)))
    ++ map (machine_statement jobs machines) (range_with_len 0 machines)
    ++ objective_spelt jobs machines ∷ []

-- names of operations that are kept from a range

kept_same : {X : Type 0} (f g : ℕ → X) (b : Bool) (a : ℕ) (ks : List ℕ) → f a ≡ g a → map f ks ≡ map g ks → map f (cond b (a ∷ ks) ks) ≡ map g (cond b (a ∷ ks) ks)
kept_same f g true a ks here rest = λ i. here i ∷ rest i
kept_same f g false a ks here rest = rest

same_kept : {X : Type 0} (p : ℕ → Bool) (f g : ℕ → X) (a n : ℕ) → ((i : ℕ) → a ≤ i → i < a + n → f i ≡ g i) → map f (filter p (range_with_len a n)) ≡ map g (filter p (range_with_len a n))
same_kept p f g a zero each = refl
same_kept p f g a (suc n) each =
    kept_same f g (p a) a (filter p (range_with_len (a + 1) n)) (each a (omega arith) (omega arith)) (same_kept p f g (a + 1) n (λ i low high. each i (omega (arith, low)) (omega (arith, high))))

module _ (seed jobs machines : ℕ) (some : 1 ≤ machines) where
  abbrev m : Data
  m = shop_model seed jobs machines

  intervals_spelt : map interval_tree m.intervals ≡ by_jobs jobs (λ j. map (λ k. interval_tree (interval (seed % 2 ^ 31) machines j k)) (range_with_len 0 machines))
  intervals_spelt =
      made_of_joined interval_tree (λ j. map (interval (seed % 2 ^ 31) machines j) (range_with_len 0 machines)) (range_with_len 0 jobs)
      ∙ same_joined _ _ 0 jobs (λ j low high. made_of_made interval_tree (interval (seed % 2 ^ 31) machines j) (range_with_len 0 machines))

  order_is : (j k : ℕ) → j < jobs → 1 ≤ k → k < 1 + (machines - 1) → Constrain (constraint_tree m (order machines j k)) ≡ order_spelt j k
  order_is j k low more less =
      let before = named seed jobs machines j (k - 1) low (omega (arith, some, less)) in
      let here = named seed jobs machines j k low (omega (arith, some, less)) in
      λ i. Constrain (constrained.Between temporal.EndBeforeStart (before i) (here i) (Some (int_tree (pos 0))))

  orders_spelt : map (λ c. Constrain (constraint_tree m c)) (by_jobs jobs (λ j. map (order machines j) (range_with_len 1 (machines - 1)))) ≡ by_jobs jobs (λ j. map (order_spelt j) (range_with_len 1 (machines - 1)))
  orders_spelt =
      made_of_joined (λ c. Constrain (constraint_tree m c)) (λ j. map (order machines j) (range_with_len 1 (machines - 1))) (range_with_len 0 jobs)
      ∙ same_joined _ _ 0 jobs (λ j low high. made_of_made (λ c. Constrain (constraint_tree m c)) (order machines j) (range_with_len 1 (machines - 1))
      ∙ same_made (λ k. Constrain (constraint_tree m (order machines j k))) (order_spelt j) 1 (machines - 1) (λ k more less. order_is j k (omega (arith, high)) more less))

  members_named : (q : ℕ) → interval_names m (sequence jobs machines q).members ≡ by_jobs jobs (λ j. map (name j) (operations_on machines q j))
  members_named q =
      made_of_joined (interval_name m) (λ j. map (operation machines j) (operations_on machines q j)) (range_with_len 0 jobs)
      ∙ same_joined _ _ 0 jobs (λ j low high. made_of_made (interval_name m) (operation machines j) (operations_on machines q j)
      ∙ same_kept (λ k. (j + k) % machines == q) (λ k. interval_name m (operation machines j k)) (name j) 0 machines (λ k more less. named seed jobs machines j k (omega (arith, high)) (omega (arith, less))))

  overlap_is : (q : ℕ) → q < machines → Constrain (constraint_tree m (constraint.NoOverlap (record { 0 = q }) None false)) ≡ machine_statement jobs machines q
  overlap_is q less =
      let none : 0 + q ≡ q = omega arith in
      let at = at_number (sequence jobs machines) 0 machines q less ∙ ap (λ i. Some (sequence jobs machines i)) none in
      ap (λ o. Constrain (constrained.NoOverlap (unwrap_or (option_map (named_or_listed m) o) (over.Named [])) None)) at
      ∙ ap (λ ns. Constrain (constrained.NoOverlap (over.Listed ns) None)) (members_named q)

  overlaps_spelt : map (λ c. Constrain (constraint_tree m c)) (map (λ q. constraint.NoOverlap (record { 0 = q }) None false) (range_with_len 0 machines)) ≡ map (machine_statement jobs machines) (range_with_len 0 machines)
  overlaps_spelt =
      made_of_made (λ c. Constrain (constraint_tree m c)) (λ q. constraint.NoOverlap (record { 0 = q }) None false) (range_with_len 0 machines)
      ∙ same_made (λ q. Constrain (constraint_tree m (constraint.NoOverlap (record { 0 = q }) None false))) (machine_statement jobs machines) 0 machines (λ q low less. overlap_is q (omega (arith, less)))

  end_is : (j : ℕ) → j < jobs → (told m (last_end machines j)).whole ≡ end_spelt machines j
  end_is j low =
      ap (λ t. t.whole) (fold-roll-Expr Told (told_step m) (expr.EndOf (operation machines j (machines - 1)) (pos 0)))
      ∙ ap (λ n. roll-Logic (logic.Measured measure.EndOf n (Some (int_tree (pos 0))))) (named seed jobs machines j (machines - 1) low (omega (arith, some)))

  ends_spelt : wholes (map (told m) (map (last_end machines) (range_with_len 0 jobs))) ≡ map (end_spelt machines) (range_with_len 0 jobs)
  ends_spelt =
      made_of_made (λ t. t.whole) (told m) (map (last_end machines) (range_with_len 0 jobs))
      ∙ made_of_made (λ e. (told m e).whole) (last_end machines) (range_with_len 0 jobs)
      ∙ same_made (λ j. (told m (last_end machines j)).whole) (end_spelt machines) 0 jobs (λ j low less. end_is j (omega (arith, less)))

  objective_is : Aim sense.Minimize (told m (roll-Expr (expr.Max (map (last_end machines) (range_with_len 0 jobs))))).whole ≡ objective_spelt jobs machines
  objective_is =
      ap (λ t. Aim sense.Minimize t.whole) (fold-roll-Expr Told (told_step m) (expr.Max (map (last_end machines) (range_with_len 0 jobs))))
      ∙ ap (λ ls. Aim sense.Minimize (roll-Logic (logic.Gathered gather.Max ls))) ends_spelt

  no_names : {X : Type 0} (f : SequenceDef → List ℕ → X) (qs : List ℕ) → filter_map (λ d. option_map (f d) d.name) (map (sequence jobs machines) qs) ≡ []
  no_names f [] = refl
  no_names f (q ∷ qs) = no_names f qs

  pub spelt_out : canonical_statements m ≡ shop_spelt seed jobs machines
  spelt_out =
      let first = by_jobs jobs (λ j. map (λ k. interval_tree (interval (seed % 2 ^ 31) machines j k)) (range_with_len 0 machines)) in
      let second = by_jobs jobs (λ j. map (order_spelt j) (range_with_len 1 (machines - 1))) in
      let third = map (machine_statement jobs machines) (range_with_len 0 machines) in
      let a = intervals_spelt in
      let c = no_names (sequence_tree m) (range_with_len 0 machines) in
      let f = map-append (λ c. Constrain (constraint_tree m c)) (by_jobs jobs (λ j. map (order machines j) (range_with_len 1 (machines - 1)))) (map (λ q. constraint.NoOverlap (record { 0 = q }) None false) (range_with_len 0 machines)) in
      let o = orders_spelt in
      let n = overlaps_spelt in
      let g = objective_is in
      (λ i. a i ++ [] ++ c i ++ [] ++ [] ++ f i ++ g i ∷ [])
      ∙ (λ i. append-nil (append-nil (append-nil (append-nil first i) i) i) i ++ (o i ++ n i) ++ objective_spelt jobs machines ∷ [])
      ∙ (λ i. sym (append_assoc first second third) i ++ objective_spelt jobs machines ∷ [])
