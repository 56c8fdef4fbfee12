-- A generated text says the words of its statements, and passes no limit on texts.
use Rattle.std.proofs.Common.{◌≡◌, ℕ, zero, suc, ◌+◌, ◌-◌, ◌*◌, ◌%◌, ◌^◌, ◌<◌, ◌≤◌, Bool, true, List, [], ◌∷◌, ◌++◌, map, length, refl, sym, ap, subst, ◌∙◌, arith}
use Rattle.std.specs.Prelude.{codes, flat_map}
use Rattle.std.specs.List.{list_all, range_with_len}
use Rattle.std.proofs.lemmas.Bool.{and_from}
use Rattle.std.proofs.lemmas.List.Concat.{flat_map-append}
use Rattle.std.proofs.lemmas.List.FromFn.{length-map-range_with_len}
use Rattle.base_laws.specs.laws.Items.{all_append}
use Rattle.base_laws.specs.laws.Numbers.{is_at_most}
use Rattle.cpo_text.specs.Spelling.{spelling, is_formed}
use Rattle.cpo_text.specs.declared.expression.Gather.TheVariants as gather
use Rattle.cpo_text.specs.declared.expression.Logic.TheViews.{roll-Logic}
use Rattle.cpo_text.specs.declared.expression.Logic.TheOpen.{Logic-F as logic}
use Rattle.cpo_text.specs.declared.tree.Sense.TheVariants as sense
use Rattle.cpo_text.specs.declared.tree.Statement.{Statement}
use Rattle.cpo_text.specs.declared.tree.Statement.TheVariants.{Aim}
use Rattle.modelgen.specs.Draws.{draw}
use Rattle.modelgen.specs.Generated.{name, listed, ended, interval_line, order_line, operations_on, machine_line, objective_line, interval_lines, order_lines, machine_lines, generated_text}
use Rattle.read_back.specs.Says.{is_chunk}
use Rattle.read_back.specs.Says.Chunk.{name as named}
use Rattle.read_back.specs.Laws.{is_shallow}
use Rattle.generated_models.specs.Shops.{by_jobs, interval_statement, order_statement, machine_statement, objective_statement, shop_statements}
use Rattle.generated_models.specs.Laws.{ShopsAreSaid}
use Rattle.generated_models.proofs.shop.Lists.{made_pass, joined_pass, made_of_made}
use Rattle.generated_models.proofs.shop.Sizes.{Sizes, sizes, draw_small, all_members}
use Rattle.generated_models.proofs.text.Names.{name_told}
use Rattle.generated_models.proofs.text.Bytes.{text_short, few_statements}
use Rattle.generated_models.proofs.text.Said.{Line, no_line, two_lines, says}
use Rattle.generated_models.proofs.text.SaidShops.{interval_said, order_said, overlap_said, aim_said, aim_spelt, end_of, end_text}
use Rattle.generated_models.proofs.text.Shallow.{overlap_shallow, aim_shallow, aim_formed}

-- the lines, each ended, say the words of the statements
abbrev Lines : List (List ℕ) → List Statement → Type 0
Lines ts ss = Line (flat_map ended ts) (flat_map spelling ss)

lines_both : (ts us : List (List ℕ)) (ss vs : List Statement) → Lines ts ss → Lines us vs → Lines (ts ++ us) (ss ++ vs)
lines_both ts us ss vs first second =
    subst (λ t. Line t (flat_map spelling (ss ++ vs))) (sym (flat_map-append ended ts us))
    (subst (Line (flat_map ended ts ++ flat_map ended us)) (sym (flat_map-append spelling ss vs)) (two_lines first second))

number_lines : (t : ℕ → List ℕ) (s : ℕ → Statement) (a n : ℕ) → ((i : ℕ) → a ≤ i → i < a + n → Line (ended (t i)) (spelling (s i))) → Lines (map t (range_with_len a n)) (map s (range_with_len a n))
number_lines t s a zero each = no_line
number_lines t s a (suc n) each = two_lines (each a (omega arith) (omega arith)) (number_lines t s (a + 1) n (λ i low high. each i (omega (arith, low)) (omega (arith, high))))

block_lines : (t : ℕ → List (List ℕ)) (s : ℕ → List Statement) (a n : ℕ) → ((i : ℕ) → a ≤ i → i < a + n → Lines (t i) (s i)) → Lines (flat_map t (range_with_len a n)) (flat_map s (range_with_len a n))
block_lines t s a zero each = no_line
block_lines t s a (suc n) each =
    lines_both (t a) (flat_map t (range_with_len (a + 1) n)) (s a) (flat_map s (range_with_len (a + 1) n)) (each a (omega arith) (omega arith))
    (block_lines t s (a + 1) n (λ i low high. each i (omega (arith, low)) (omega (arith, high))))

module _ (seed jobs machines : ℕ) (z : Sizes jobs machines) where
  abbrev x : ℕ
  x = seed % 2 ^ 31

  told : (j k : ℕ) → j < jobs → k < machines → is_chunk (named (name j k)) ≡ true
  told j k low less = let few = z.few_jobs in let narrow = z.few_machines in name_told j k (omega (arith, few, low)) (omega (arith, narrow, less))

  interval_line_said : (j k : ℕ) → j < jobs → k < machines → Line (ended (interval_line j k (draw x (j * machines + k)))) (spelling (interval_statement x machines j k))
  interval_line_said j k low less = let small = draw_small x (j * machines + k) in interval_said (name j k) (draw x (j * machines + k)) (told j k low less) (is_at_most _ _ (omega (arith, small)))

  intervals_said : Lines (interval_lines x jobs machines) (by_jobs jobs (λ j. map (interval_statement x machines j) (range_with_len 0 machines)))
  intervals_said = block_lines (λ j. map (λ k. interval_line j k (draw x (j * machines + k))) (range_with_len 0 machines)) (λ j. map (interval_statement x machines j) (range_with_len 0 machines)) 0 jobs
      (λ j low high. number_lines (λ k. interval_line j k (draw x (j * machines + k))) (interval_statement x machines j) 0 machines (λ k more less. interval_line_said j k (omega (arith, high)) (omega (arith, less))))

  orders_said : Lines (order_lines jobs machines) (by_jobs jobs (λ j. map (order_statement j) (range_with_len 1 (machines - 1))))
  orders_said = block_lines (λ j. map (order_line j) (range_with_len 1 (machines - 1))) (λ j. map (order_statement j) (range_with_len 1 (machines - 1))) 0 jobs
      (λ j low high. number_lines (order_line j) (order_statement j) 1 (machines - 1)
      (λ k more less. let some = z.some_machines in order_said (name j (k - 1)) (name j k) (told j (k - 1) (omega (arith, high)) (omega (arith, some, less))) (told j k (omega (arith, high)) (omega (arith, some, less)))))

  members_told : (q : ℕ) → list_all (λ n. is_chunk (named n)) (by_jobs jobs (λ j. map (name j) (operations_on machines q j))) ≡ true
  members_told q = all_members jobs machines q (λ n. is_chunk (named n)) (λ j k low less. told j k low less)

  overlaps_said : Lines (machine_lines jobs machines) (map (machine_statement jobs machines) (range_with_len 0 machines))
  overlaps_said = number_lines (machine_line jobs machines) (machine_statement jobs machines) 0 machines (λ q low high. overlap_said (by_jobs jobs (λ j. map (name j) (operations_on machines q j))) (members_told q))

  abbrev lasts : List (List ℕ)
  lasts = map (λ j. name j (machines - 1)) (range_with_len 0 jobs)

  lasts_told : list_all (λ n. is_chunk (named n)) lasts ≡ true
  lasts_told = let some = z.some_machines in made_pass (λ n. is_chunk (named n)) (λ j. name j (machines - 1)) 0 jobs (λ j low high. told j (machines - 1) (omega (arith, high)) (omega (arith, some)))

  aim_is : objective_statement jobs machines ≡ Aim sense.Minimize (roll-Logic (logic.Gathered gather.Max (map end_of lasts)))
  aim_is = ap (λ es. Aim sense.Minimize (roll-Logic (logic.Gathered gather.Max es))) (sym (made_of_made end_of (λ j. name j (machines - 1)) (range_with_len 0 jobs)))

  objective_said : Line (ended (objective_line jobs machines)) (spelling (objective_statement jobs machines))
  objective_said =
      subst (λ t. Line (ended (codes "minimize(max([" ++ listed t ++ codes "]));")) (spelling (objective_statement jobs machines))) (made_of_made end_text (λ j. name j (machines - 1)) (range_with_len 0 jobs))
      (subst (Line (ended (codes "minimize(max([" ++ listed (map end_text lasts) ++ codes "]));"))) (sym (ap spelling aim_is ∙ aim_spelt lasts)) (aim_said lasts lasts_told))

  pub shop_said : Lines (interval_lines x jobs machines ++ order_lines jobs machines ++ machine_lines jobs machines ++ objective_line jobs machines ∷ []) (shop_statements seed jobs machines)
  shop_said = lines_both _ _ _ _ (lines_both _ _ _ _ (lines_both _ _ _ _ intervals_said orders_said) overlaps_said) (two_lines objective_said no_line)

  -- what each statement passes
  each_statement : (p : Statement → Bool) → ((j k : ℕ) → p (interval_statement x machines j k) ≡ true) → ((j k : ℕ) → p (order_statement j k) ≡ true) → ((q : ℕ) → p (machine_statement jobs machines q) ≡ true)
      → p (objective_statement jobs machines) ≡ true → list_all p (shop_statements seed jobs machines) ≡ true
  each_statement p intervals orders overlaps aim =
      let first = joined_pass p (λ j. map (interval_statement x machines j) (range_with_len 0 machines)) 0 jobs
      (λ j low high. made_pass p (interval_statement x machines j) 0 machines (λ k more less. intervals j k)) in
      let second = joined_pass p (λ j. map (order_statement j) (range_with_len 1 (machines - 1))) 0 jobs
      (λ j low high. made_pass p (order_statement j) 1 (machines - 1) (λ k more less. orders j k)) in
      let third = made_pass p (machine_statement jobs machines) 0 machines (λ q low high. overlaps q) in
      all_append p _ (objective_statement jobs machines ∷ []) (all_append p _ (map (machine_statement jobs machines) (range_with_len 0 machines)) (all_append p _ _ first second) third) (and_from _ true aim refl)

  lasts_size : 1 ≤ length lasts
  lasts_size = let some = z.some_jobs in omega (arith, some, length-map-range_with_len (λ j. name j (machines - 1)) 0 jobs)

  pub shop_formed : list_all is_formed (shop_statements seed jobs machines) ≡ true
  shop_formed = each_statement is_formed (λ j k. refl) (λ j k. refl) (λ q. refl) (ap is_formed aim_is ∙ aim_formed lasts lasts_size)

  pub shop_shallow : list_all is_shallow (shop_statements seed jobs machines) ≡ true
  shop_shallow = each_statement is_shallow (λ j k. refl) (λ j k. refl) (λ q. overlap_shallow (by_jobs jobs (λ j. map (name j) (operations_on machines q j)))) (ap is_shallow aim_is ∙ aim_shallow lasts)

pub shops_are_said : ShopsAreSaid
unfolding generated_text
shops_are_said seed jobs machines within =
    let z = sizes jobs machines within in
    record {
      says = says (shop_said seed jobs machines z);
      formed = shop_formed seed jobs machines z;
      shallow = shop_shallow seed jobs machines z;
      bytes = text_short seed jobs machines z;
      few = few_statements seed jobs machines z;
    }
