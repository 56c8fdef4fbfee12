-- The model of a job shop is valid.
use Rattle.std.proofs.Common.{◌≡◌, ℕ, zero, suc, ◌+◌, ◌-◌, ◌*◌, ◌%◌, ◌^◌, ◌<◌, ◌≤◌, ◌==◌, pos, Bool, true, false, not, ◌&&◌, List, [], ◌∷◌, ◌++◌, map, length, nat_le, Option, Some, None, is_some, slice_get, refl, sym, ap, ◌∙◌, arith}
use Rattle.std.specs.List.{list_all, range_with_len, filter_map, sum_by}
use Rattle.std.specs.Ordering.{int_eq}
use Rattle.std.specs.Str.{bytes_eq}
use Rattle.std.proofs.Math.Nat.{mul-le-mul_left, mul-le-mul_right}
use Rattle.std.proofs.lemmas.Bool.{and_parts, and_from}
use Rattle.std.proofs.lemmas.Bool.Decides.{Decides-int_eq}
use Rattle.std.proofs.lemmas.List.{append-nil, length-append, length-map}
use Rattle.std.proofs.lemmas.List.FromFn.{length-map-range_with_len}
use Rattle.std.proofs.lemmas.List.Sums.{sum_by-cons}
use Rattle.base_laws.specs.laws.Items.{all_append, all_at}
use Rattle.base_laws.specs.laws.Numbers.{at_most, is_at_most, differs}
use Rattle.base_laws.specs.laws.Places.{within}
use Rattle.base_laws.specs.laws.Truth.{three_true}
use Rattle.sched_base.specs.declared.ids.Itv.{Itv}
use Rattle.sched_model.specs.Words.{pairwise}
use Rattle.sched_model.specs.Data.{Data, horizon, same}
use Rattle.sched_model.specs.Hull.{hull_step}
use Rattle.sched_model.specs.Valid.{IsValid, is_name, all_names, are_names, is_span_of_moments, is_interval_def, is_itv, are_distinct, is_sequence_def, is_constraint, is_expr, pair_count, nodes_of, node_count, is_within_limits}
use Rattle.sched_model.specs.laws.Limits.{within_limits}
use Rattle.sched_model.specs.declared.types.IntervalDef.{IntervalDef}
use Rattle.sched_model.specs.declared.types.SequenceDef.{SequenceDef}
use Rattle.sched_model.specs.declared.types.Constraint.{Constraint}
use Rattle.sched_model.specs.declared.types.Constraint.TheVariants as constraint
use Rattle.sched_model.specs.declared.types.Expr.{Expr}
use Rattle.sched_model.specs.declared.types.Expr.TheOpen.{Expr-F as expr}
use Rattle.sched_model.specs.declared.types.Expr.TheViews.{roll-Expr}
use Rattle.modelgen.specs.Draws.{draw}
use Rattle.modelgen.specs.Generated.{name, operations_on}
use Rattle.generated_models.specs.Shops.{by_jobs, interval, operation, sequence, order, last_end, shop_model}
use Rattle.generated_models.proofs.shop.Lists.{made_pass, kept_pass, joined_pass, same_joined, made_of_made, made_of_joined, at_number, at_block}
use Rattle.generated_models.proofs.shop.Sizes.{Sizes, draw_small, numbers_length, few_blocks}
use Rattle.generated_models.proofs.shop.Apart.{pairs_joined, pairs_made, pairs_of_one, one_operation}
use Rattle.generated_models.proofs.text.Names.{name_valid, names_apart}
use Rattle.generated_models.proofs.shop.Objective.{end_of, greatest_end, end_hull, expr_passes, nodes_are}

size_span : (n : ℕ) → n ≤ 20 → is_span_of_moments (pos n) (pos n) ≡ true
size_span n small =
    let high = is_at_most n 1000000000 (omega (arith, small)) in
    and_from _ _ (and_from _ _ high high) (is_at_most n n (omega arith))

no_names : (jobs machines : ℕ) (qs : List ℕ) → filter_map (λ d. d.name) (map (sequence jobs machines) qs) ≡ []
no_names jobs machines [] = refl
no_names jobs machines (q ∷ qs) = no_names jobs machines qs

-- twice the pairs of n things
pairs_twice : (n : ℕ) → 2 * pair_count n + n ≡ n * n
pairs_twice zero = refl
pairs_twice (suc n) = let rest = pairs_twice n in omega (arith, rest)

few_pairs : (n jobs : ℕ) → n ≤ jobs → jobs ≤ 500 → pair_count n ≤ jobs * 250
few_pairs n jobs low few = let most = mul-le-mul_left {m = n} {n = 500} n (omega (arith, low, few)) in omega (arith, most, low, pairs_twice n)

made_sum : {X : Type 0} (g : X → ℕ) (f : ℕ → X) (c a n : ℕ) → ((i : ℕ) → g (f i) ≤ c) → sum_by g (map f (range_with_len a n)) ≤ n * c
made_sum g f c a zero each = omega arith
made_sum g f c a (suc n) each =
    let here = each a in
    let rest = made_sum g f c (a + 1) n each in
    omega (arith, here, rest, sum_by-cons g (f a) (map f (range_with_len (a + 1) n)))

no_sum : {X : Type 0} (g : X → ℕ) (xs : List X) → list_all (λ x. nat_le (g x) 0) xs ≡ true → sum_by g xs ≡ 0
no_sum g [] all = refl
no_sum g (x ∷ xs) all =
    let parts = and_parts (nat_le (g x) 0) (list_all (λ x. nat_le (g x) 0) xs) all in
    let here = at_most (g x) 0 parts.0 in
    let rest = no_sum g xs parts.1 in
    omega (arith, here, rest, sum_by-cons g x xs)

-- an interval that is there, and ends from 0 to H
abbrev is_plain : IntervalDef → Bool
is_plain d = not d.optional && int_eq d.end_lo (pos 0) && int_eq d.end_hi horizon

present : (b : Bool) → not b ≡ true → b ≡ false
present true h = cc
present false h = refl

plain_hull : (m : Data) (x : Itv) (o : Option IntervalDef) → slice_get m.intervals x.0 ≡ o → is_some o ≡ true → list_all is_plain m.intervals ≡ true → hull_step m (expr.EndOf x (pos 0)) ≡ Some (pos 0, horizon)
plain_hull m x None at there all = cc
plain_hull m x (Some d) at there all =
    let parts = three_true (not d.optional) (int_eq d.end_lo (pos 0)) (int_eq d.end_hi horizon) (all_at is_plain m.intervals x.0 d all at) in
    end_hull m x d at (present d.optional parts.0) ((Decides-int_eq d.end_lo (pos 0)).0 parts.1) ((Decides-int_eq d.end_hi horizon).0 parts.2)

module _ (seed jobs machines : ℕ) (z : Sizes jobs machines) where
  abbrev x : ℕ
  x = seed % 2 ^ 31

  abbrev m : Data
  m = shop_model seed jobs machines

  there : (j k : ℕ) → j < jobs → k < machines → slice_get m.intervals (j * machines + k) ≡ Some (interval x machines j k)
  there j k low less = let none : 0 + j ≡ j = omega arith in at_block (interval x machines) machines 0 jobs j k low less ∙ ap (λ i. Some (interval x machines i k)) none

  is_there : (j k : ℕ) → j < jobs → k < machines → is_itv m (operation machines j k) ≡ true
  is_there j k low less = within m.intervals (j * machines + k) ∙ ap is_some (there j k low less)

  pub names_are : all_names m ≡ by_jobs jobs (λ j. map (name j) (range_with_len 0 machines))
  names_are =
      let names = by_jobs jobs (λ j. map (name j) (range_with_len 0 machines)) in
      let intervals =
      made_of_joined (λ (d : IntervalDef). d.name) (λ j. map (interval x machines j) (range_with_len 0 machines)) (range_with_len 0 jobs)
      ∙ same_joined _ _ 0 jobs (λ j low high. made_of_made (λ (d : IntervalDef). d.name) (interval x machines j) (range_with_len 0 machines)) in
      let none = no_names jobs machines (range_with_len 0 machines) in
      (λ i. intervals i ++ [] ++ none i ++ [] ++ []) ∙ (λ i. append-nil (append-nil (append-nil (append-nil names i) i) i) i)

  low_job : (j : ℕ) → j < jobs → j < 1000
  low_job j low = let few = z.few_jobs in omega (arith, few, low)

  low_place : (k : ℕ) → k < machines → k < 1000
  low_place k less = let few = z.few_machines in omega (arith, few, less)

  pub all_named : (p : List ℕ → Bool) → ((j k : ℕ) → j < 1000 → k < 1000 → p (name j k) ≡ true) → list_all p (all_names m) ≡ true
  all_named p each = ap (list_all p) names_are ∙ joined_pass p (λ j. map (name j) (range_with_len 0 machines)) 0 jobs
      (λ j low high. made_pass p (name j) 0 machines (λ k more less. each j k (low_job j (omega (arith, high))) (low_place k (omega (arith, less)))))

  names_pass : are_names (all_names m) ≡ true
  names_pass =
      let r = λ (a b : List ℕ). not (bytes_eq a b) in
      let job = λ (j : ℕ). map (name j) (range_with_len 0 machines) in
      and_from _ _ (all_named is_name name_valid)
      (ap (pairwise r) names_are ∙ pairs_joined r job 0 jobs
      (λ j low high. pairs_made r (name j) 0 machines
      (λ k i more less end. let jobs_low = low_job j (omega (arith, high)) in names_apart j k j i jobs_low (low_place k (omega (arith, less, end))) jobs_low (low_place i (omega (arith, end))) (λ e f. omega (arith, less, f))))
      (λ i j low less high. made_pass _ (name i) 0 machines (λ k more end. made_pass _ (name j) 0 machines (λ q last past. names_apart i k j q (low_job i (omega (arith, less, high))) (low_place k (omega (arith, end))) (low_job j (omega (arith, high))) (low_place q (omega (arith, past))) (λ e f. omega (arith, less, e))))))

  interval_passes : (j k : ℕ) → is_interval_def (interval x machines j k) ≡ true
  interval_passes j k = let n = draw x (j * machines + k) in and_from _ _ (size_span n (draw_small x (j * machines + k))) (is_at_most 0 n (omega arith))

  each_interval : (p : IntervalDef → Bool) → ((j k : ℕ) → p (interval x machines j k) ≡ true) → list_all p m.intervals ≡ true
  each_interval p each = joined_pass p (λ j. map (interval x machines j) (range_with_len 0 machines)) 0 jobs
      (λ j low high. made_pass p (interval x machines j) 0 machines (λ k more less. each j k))

  -- the members of a machine's sequence

  members_there : (q : ℕ) → list_all (is_itv m) (sequence jobs machines q).members ≡ true
  members_there q = joined_pass (is_itv m) (λ j. map (operation machines j) (operations_on machines q j)) 0 jobs
      (λ j low high. kept_pass (is_itv m) (operation machines j) (λ k. (j + k) % machines == q) 0 machines (λ k more less. is_there j k (omega (arith, high)) (omega (arith, less))))

  others : (i k j q : ℕ) → i < j → k < machines → not (same (operation machines i k) (operation machines j q)) ≡ true
  others i k j q less low =
      let rows = mul-le-mul_right {m = i + 1} {n = j} machines (omega (arith, less)) in
      ap not (differs (i * machines + k) (j * machines + q) (λ e. omega (arith, e, rows, low)))

  one_each : (q j : ℕ) → length (map (operation machines j) (operations_on machines q j)) ≤ 1
  one_each q j = let one = one_operation machines q j in omega (arith, one, length-map (operations_on machines q j) (operation machines j))

  members_distinct : (q : ℕ) → are_distinct (sequence jobs machines q).members ≡ true
  members_distinct q =
      let r = λ (a b : Itv). not (same a b) in
      pairs_joined r (λ j. map (operation machines j) (operations_on machines q j)) 0 jobs
      (λ j low high. pairs_of_one r (map (operation machines j) (operations_on machines q j)) (one_each q j))
      (λ i j low less high. kept_pass _ (operation machines i) (λ k. (i + k) % machines == q) 0 machines (λ k more end. kept_pass _ (operation machines j) (λ k. (j + k) % machines == q) 0 machines (λ p last past. others i k j p less (omega (arith, end)))))

  members_few : (q : ℕ) → length (sequence jobs machines q).members ≤ jobs
  members_few q = let all = numbers_length (λ j. map (operation machines j) (operations_on machines q j)) 1 0 jobs (one_each q) in omega (arith, all)

  sequence_passes : (q : ℕ) → is_sequence_def m (sequence jobs machines q) ≡ true
  sequence_passes q =
      let few = z.few_jobs in
      let members = members_few q in
      and_from _ true (and_from _ _ (and_from _ _ (members_there q) (members_distinct q)) (is_at_most _ 500 (omega (arith, few, members)))) refl

  -- constraints

  pub each_constraint : (p : Constraint → Bool) → ((j k : ℕ) → j < jobs → 1 ≤ k → k < machines → p (order machines j k) ≡ true) → ((q : ℕ) → q < machines → p (constraint.NoOverlap (record { 0 = q }) None false) ≡ true)
      → list_all p m.constraints ≡ true
  each_constraint p orders overlaps =
      let some = z.some_machines in
      all_append p _ _
      (joined_pass p (λ j. map (order machines j) (range_with_len 1 (machines - 1))) 0 jobs
      (λ j low high. made_pass p (order machines j) 1 (machines - 1) (λ k more less. orders j k (omega (arith, high)) more (omega (arith, some, less)))))
      (made_pass p (λ q. constraint.NoOverlap (record { 0 = q }) None false) 0 machines (λ q low high. overlaps q (omega (arith, high))))

  constraints_pass : list_all (is_constraint m) m.constraints ≡ true
  constraints_pass = each_constraint (is_constraint m)
      (λ j k low more less. and_from _ true (and_from _ _ (is_there j (k - 1) low (omega (arith, more, less))) (is_there j k low less)) refl)
      (λ q less. and_from _ true (within m.sequences q ∙ ap is_some (at_number (sequence jobs machines) 0 machines q less)) refl)

  -- the objective

  pub lasts : List Itv
  lasts = map (λ j. operation machines j (machines - 1)) (range_with_len 0 jobs)

  pub aim_is : roll-Expr (expr.Max (map (last_end machines) (range_with_len 0 jobs))) ≡ greatest_end lasts
  unfolding lasts
  aim_is = ap (λ (es : List Expr). roll-Expr (expr.Max es)) (sym (made_of_made end_of (λ j. operation machines j (machines - 1)) (range_with_len 0 jobs)))

  lasts_there : list_all (is_itv m) lasts ≡ true
  unfolding lasts
  lasts_there = let some = z.some_machines in made_pass (is_itv m) (λ j. operation machines j (machines - 1)) 0 jobs (λ j low high. is_there j (machines - 1) (omega (arith, high)) (omega (arith, some)))

  lasts_are : length lasts ≡ jobs
  unfolding lasts
  lasts_are = length-map-range_with_len (λ j. operation machines j (machines - 1)) 0 jobs

  aim_passes : is_expr m (roll-Expr (expr.Max (map (last_end machines) (range_with_len 0 jobs)))) ≡ true
  aim_passes =
      let some = z.some_jobs in
      ap (is_expr m) aim_is ∙ expr_passes m lasts (is_itv m) (λ y h. plain_hull m y _ refl (sym (within m.intervals y.0) ∙ h) (each_interval is_plain (λ j k. refl))) (omega (arith, some, lasts_are)) lasts_there lasts_there

  -- limits

  limits_kept : is_within_limits m ≡ true
  limits_kept =
      let few = z.few in
      let few_jobs = z.few_jobs in
      let narrow = z.few_machines in
      let orders = by_jobs jobs (λ j. map (order machines j) (range_with_len 1 (machines - 1))) in
      let overlaps = map (λ q. constraint.NoOverlap (record { 0 = q }) None false) (range_with_len 0 machines) in
      let few_intervals = few_blocks z (interval x machines) 0 machines (omega arith) in
      let few_orders = few_blocks z (order machines) 1 (machines - 1) (omega arith) in
      let few_overlaps = length-map-range_with_len (λ q. constraint.NoOverlap (record { 0 = q }) None false) 0 machines in
      let few_sequences = length-map-range_with_len (sequence jobs machines) 0 machines in
      let pairs = made_sum (λ (d : SequenceDef). pair_count (length d.members)) (sequence jobs machines) (jobs * 250) 0 machines (λ q. few_pairs _ jobs (members_few q) few_jobs) in
      let none = no_sum nodes_of m.constraints (each_constraint (λ c. nat_le (nodes_of c) 0) (λ j k low more less. refl) (λ q less. refl)) in
      let nodes = ap node_count aim_is ∙ nodes_are lasts in
      within_limits m (record {
        intervals = few_intervals;
        sequences = omega (arith, few_sequences, narrow);
        matrices = omega arith;
        cumuls = omega arith;
        states = omega arith;
        constraints = omega (arith, few_orders, few_overlaps, narrow, length-append orders overlaps);
        cells = omega (arith, few, few_intervals, pairs);
        nodes = omega (arith, none, nodes, lasts_are, few_jobs);
      })

  pub valid : IsValid m
  valid = record {
    names = names_pass;
    intervals = each_interval is_interval_def interval_passes;
    matrices = refl;
    sequences = made_pass (is_sequence_def m) (sequence jobs machines) 0 machines (λ q low high. sequence_passes q);
    cumuls = refl;
    states = refl;
    constraints = constraints_pass;
    objective = aim_passes;
    criteria = record { many = refl; hulls = refl; rank = λ some. cc };
    limits = limits_kept;
  }
