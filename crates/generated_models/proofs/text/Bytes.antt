-- A generated text is within the limits on texts.
use Rattle.std.proofs.Common.{◌≡◌, ℕ, ◌+◌, ◌-◌, ◌*◌, ◌%◌, ◌^◌, ◌<◌, ◌≤◌, true, List, [], ◌∷◌, ◌++◌, map, length, nat_le, ap, arith}
use Rattle.std.specs.Prelude.{codes, decimal}
use Rattle.std.specs.List.{flat_map, list_all, range_with_len}
use Rattle.std.proofs.lemmas.Bool.{and_parts}
use Rattle.std.proofs.lemmas.Fmt.{length-decimal-le}
use Rattle.std.proofs.lemmas.List.{length-append, length-map}
use Rattle.std.proofs.lemmas.List.Concat.{flat_map-append}
use Rattle.std.proofs.lemmas.List.FromFn.{length-map-range_with_len}
use Rattle.base_laws.specs.laws.Numbers.{at_most, is_at_most}
use Rattle.cpo_text.specs.Reads.{text_limit}
use Rattle.cpo_elab.specs.Judged.{statement_limit}
use Rattle.modelgen.specs.Draws.{draw}
use Rattle.modelgen.specs.Generated.{name, listed, ended, interval_line, order_line, operations_on, machine_line, objective_line, interval_lines, order_lines, machine_lines, generated_text}
use Rattle.generated_models.specs.Shops.{by_jobs, interval_statement, order_statement, machine_statement, objective_statement, shop_statements}
use Rattle.generated_models.proofs.shop.Lists.{made_pass, joined_pass}
use Rattle.generated_models.proofs.shop.Sizes.{Sizes, draw_small, joined_length, numbers_length, few_blocks, operations_length, all_members}
use Rattle.generated_models.proofs.text.Names.{name_length}

-- items with commas between them
listed_length : (c : ℕ) (xs : List (List ℕ)) → list_all (λ x. nat_le (length x) c) xs ≡ true → length (listed xs) ≤ length xs * (c + 1)
listed_length c [] all = omega arith
listed_length c (x ∷ []) all = let here = at_most (length x) c (and_parts (nat_le (length x) c) true all).0 in omega (arith, here)
listed_length c (x ∷ y ∷ ys) all =
    let parts = and_parts (nat_le (length x) c) (list_all (λ x. nat_le (length x) c) (y ∷ ys)) all in
    let here = at_most (length x) c parts.0 in
    let rest = listed_length c (y ∷ ys) parts.1 in
    omega (arith, here, rest, length-append x (44 ∷ listed (y ∷ ys)))

five_parts : (a b c d e : List ℕ) → length (a ++ b ++ c ++ d ++ e) ≡ length a + length b + length c + length d + length e
five_parts a b c d e = omega (arith, length-append (a ++ b ++ c ++ d) e, length-append (a ++ b ++ c) d, length-append (a ++ b) c, length-append a b)

interval_short : (n : List ℕ) (d : ℕ) → length n ≤ 8 → d ≤ 20 → length (ended (n ++ codes " = intervalVar(size=" ++ decimal d ++ codes ");")) ≤ 40
interval_short n d short small =
    let digits = length-decimal-le 2 d (omega arith) (omega (arith, small)) (omega (arith, small)) in
    omega (arith, short, digits, five_parts n (codes " = intervalVar(size=") (decimal d) (codes ");") (codes "\n"))

order_short : (n k : List ℕ) → length n ≤ 8 → length k ≤ 8 → length (ended (codes "endBeforeStart(" ++ n ++ codes "," ++ k ++ codes ");")) ≤ 40
order_short n k first second = omega (arith, first, second, five_parts n (codes ",") k (codes ");") (codes "\n"))

machine_short : (l : List ℕ) → length l ≤ 18000 → length (ended (codes "noOverlap([" ++ l ++ codes "]);")) ≤ 18020
machine_short l short = omega (arith, short, length-append (l ++ codes "]);") (codes "\n"), length-append l (codes "]);"))

aim_short : (l : List ℕ) → length l ≤ 8000 → length (ended (codes "minimize(max([" ++ l ++ codes "]));")) ≤ 8020
aim_short l short = omega (arith, short, length-append (l ++ codes "]));") (codes "\n"), length-append l (codes "]));"))

module _ (seed jobs machines : ℕ) (z : Sizes jobs machines) where
  abbrev x : ℕ
  x = seed % 2 ^ 31

  short : (j k : ℕ) → j < jobs → k < machines → length (name j k) ≤ 8
  short j k low less = let few = z.few_jobs in let narrow = z.few_machines in name_length j k (omega (arith, few, low)) (omega (arith, narrow, less))

  intervals_short : list_all (λ l. nat_le (length (ended l)) 40) (interval_lines x jobs machines) ≡ true
  intervals_short = joined_pass _ (λ j. map (λ k. interval_line j k (draw x (j * machines + k))) (range_with_len 0 machines)) 0 jobs
      (λ j low high. made_pass _ (λ k. interval_line j k (draw x (j * machines + k))) 0 machines (λ k more less. is_at_most _ 40 (interval_short (name j k) (draw x (j * machines + k)) (short j k (omega (arith, high)) (omega (arith, less))) (draw_small x (j * machines + k)))))

  orders_short : list_all (λ l. nat_le (length (ended l)) 40) (order_lines jobs machines) ≡ true
  orders_short = joined_pass _ (λ j. map (order_line j) (range_with_len 1 (machines - 1))) 0 jobs
      (λ j low high. made_pass _ (order_line j) 1 (machines - 1) (λ k more less. let some = z.some_machines in is_at_most _ 40 (order_short (name j (k - 1)) (name j k) (short j (k - 1) (omega (arith, high)) (omega (arith, some, less))) (short j k (omega (arith, high)) (omega (arith, some, less))))))

  members_short : (q : ℕ) → length (listed (by_jobs jobs (λ j. map (name j) (operations_on machines q j)))) ≤ 18000
  members_short q =
      let few = z.few in
      let count = numbers_length (λ j. map (name j) (operations_on machines q j)) machines 0 jobs (λ j. let size = operations_length machines q j in omega (arith, size, length-map (operations_on machines q j) (name j))) in
      let all = listed_length 8 (by_jobs jobs (λ j. map (name j) (operations_on machines q j))) (all_members jobs machines q (λ n. nat_le (length n) 8) (λ j k low less. is_at_most _ 8 (short j k low less))) in
      omega (arith, few, count, all)

  overlaps_short : list_all (λ l. nat_le (length (ended l)) 18020) (machine_lines jobs machines) ≡ true
  overlaps_short = made_pass _ (machine_line jobs machines) 0 machines (λ q low high. is_at_most _ 18020 (machine_short _ (members_short q)))

  aim_line_short : length (ended (objective_line jobs machines)) ≤ 8020
  aim_line_short =
      let ends = map (λ j. codes "endOf(" ++ name j (machines - 1) ++ codes ")") (range_with_len 0 jobs) in
      let some = z.some_machines in
      let few = z.few_jobs in
      let count = length-map-range_with_len (λ j. codes "endOf(" ++ name j (machines - 1) ++ codes ")") 0 jobs in
      let all = listed_length 15 ends (made_pass _ (λ j. codes "endOf(" ++ name j (machines - 1) ++ codes ")") 0 jobs
      (λ j low high. let size = short j (machines - 1) (omega (arith, high)) (omega (arith, some)) in is_at_most _ 15 (omega (arith, size, length-append (name j (machines - 1)) (codes ")"))))) in
      aim_short (listed ends) (omega (arith, few, count, all))

  pub text_short : length (generated_text seed jobs machines) ≤ text_limit
  unfolding generated_text
  text_short =
      let a = interval_lines x jobs machines in
      let b = order_lines jobs machines in
      let c = machine_lines jobs machines in
      let d = objective_line jobs machines ∷ [] in
      let some = z.some_machines in
      let narrow = z.few_machines in
      let first = joined_length ended 40 a intervals_short in
      let second = joined_length ended 40 b orders_short in
      let third = joined_length ended 18020 c overlaps_short in
      let few_a = few_blocks z (λ j k. interval_line j k (draw x (j * machines + k))) 0 machines (omega arith) in
      let few_b = few_blocks z order_line 1 (machines - 1) (omega arith) in
      let few_c = length-map-range_with_len (machine_line jobs machines) 0 machines in
      omega (
        arith,
        first,
        second,
        third,
        few_a,
        few_b,
        few_c,
        narrow,
        aim_line_short,
        ap length (flat_map-append ended (a ++ b ++ c) d),
        ap length (flat_map-append ended (a ++ b) c),
        ap length (flat_map-append ended a b),
        length-append (flat_map ended (a ++ b ++ c)) (flat_map ended d),
        length-append (flat_map ended (a ++ b)) (flat_map ended c),
        length-append (flat_map ended a) (flat_map ended b),
        length-append (ended (objective_line jobs machines)) [],
      )

  pub few_statements : length (shop_statements seed jobs machines) ≤ statement_limit
  few_statements =
      let narrow = z.few_machines in
      let a = by_jobs jobs (λ j. map (interval_statement x machines j) (range_with_len 0 machines)) in
      let b = by_jobs jobs (λ j. map (order_statement j) (range_with_len 1 (machines - 1))) in
      let c = map (machine_statement jobs machines) (range_with_len 0 machines) in
      let few_a = few_blocks z (interval_statement x machines) 0 machines (omega arith) in
      let few_b = few_blocks z order_statement 1 (machines - 1) (omega arith) in
      let few_c = length-map-range_with_len (machine_statement jobs machines) 0 machines in
      omega (arith, narrow, few_a, few_b, few_c, length-append (a ++ b ++ c) (objective_statement jobs machines ∷ []), length-append (a ++ b) c, length-append a b)
