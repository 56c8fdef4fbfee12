-- The model of a job shop is as a text can write it.
use Rattle.std.proofs.Common.{◌≡◌, ℕ, zero, suc, ◌+◌, ◌-◌, Bool, true, false, not, ◌||◌, List, [], ◌∷◌, ◌++◌, map, length, nat_le, None, is_none, refl, sym, ap, ◌∙◌}
use Rattle.std.specs.List.{flat_map, list_all, list_any, range_with_len, filter, count_by}
use Rattle.std.specs.Str.{bytes_eq}
use Rattle.std.proofs.lemmas.Bool.{and_parts, and_from}
use Rattle.std.proofs.lemmas.List.Concat.{flat_map-append}
use Rattle.std.proofs.lemmas.List.Sums.{length-filter}
use Rattle.base_laws.specs.laws.Kept.{none_pass, all_pass}
use Rattle.base_laws.specs.laws.Numbers.{is_at_most}
use Rattle.sched_model.specs.Words.{is_empty}
use Rattle.sched_model.specs.Data.{Data}
use Rattle.sched_model.specs.declared.types.SequenceDef.{SequenceDef}
use Rattle.sched_model.specs.declared.types.Constraint.TheVariants as constraint
use Rattle.cpo_text.specs.Runs.{left_out_words}
use Rattle.cpo_elab.specs.NamedFirst.{is_named_sequence}
use Rattle.read_back.specs.Written.{IsWritten, is_written_expr, is_written, sequences_in, cumuls_in, places, from_place}
use Rattle.generated_models.specs.Shops.{by_jobs, sequence, order, shop_model}
use Rattle.generated_models.specs.Laws.{ShopsAreWritten}
use Rattle.generated_models.proofs.shop.Lists.{all_numbers, made_pass, joined_pass}
use Rattle.generated_models.proofs.shop.Sizes.{Sizes, sizes}
use Rattle.generated_models.proofs.shop.Apart.{pairs_made}
use Rattle.generated_models.proofs.text.Names.{name_kept}
use Rattle.generated_models.proofs.shop.Objective.{expr_written}
use Rattle.generated_models.proofs.shop.ShopValid.{valid, all_named, each_constraint, lasts, aim_is}

nothing_of : {X Y : Type 0} (f : X → List Y) (xs : List X) → list_all (λ x. is_empty (f x)) xs ≡ true → flat_map f xs ≡ []
nothing_of f [] all = refl
nothing_of f (x ∷ xs) all = let parts = and_parts (is_empty (f x)) (list_all (λ x. is_empty (f x)) xs) all in let here = empty (f x) parts.0 in let rest = nothing_of f xs parts.1 in λ i. here i ++ rest i
  where
    empty : {Z : Type 0} (zs : List Z) → is_empty zs ≡ true → zs ≡ []
    empty [] h = refl
    empty (z ∷ zs) h = cc

overlaps_write : (qs : List ℕ) → flat_map sequences_in (map (λ q. constraint.NoOverlap (record { 0 = q }) None false) qs) ≡ qs
overlaps_write [] = refl
overlaps_write (q ∷ qs) = ap (λ ks. q ∷ ks) (overlaps_write qs)

places_are : {X : Type 0} (f : ℕ → X) (a n : ℕ) → places a (map f (range_with_len a n)) ≡ range_with_len a n
places_are f a zero = refl
places_are f a (suc n) = ap (λ ks. a ∷ ks) (places_are f (a + 1) n)

module _ (seed jobs machines : ℕ) (z : Sizes jobs machines) where
  abbrev m : Data
  m = shop_model seed jobs machines

  each_sequence : (p : SequenceDef → Bool) → ((q : ℕ) → p (sequence jobs machines q) ≡ true) → list_all p m.sequences ≡ true
  each_sequence p each = made_pass p (sequence jobs machines) 0 machines (λ q low high. each q)

  no_count : count_by is_named_sequence m.sequences ≡ 0
  no_count = sym (length-filter is_named_sequence m.sequences) ∙ ap length (none_pass is_named_sequence m.sequences (each_sequence (λ d. not (is_named_sequence d)) (λ q. refl)))

  written_sequences : flat_map sequences_in m.constraints ≡ range_with_len 0 machines
  written_sequences =
      let orders = by_jobs jobs (λ j. map (order machines j) (range_with_len 1 (machines - 1))) in
      let none = nothing_of sequences_in orders (joined_pass _ (λ j. map (order machines j) (range_with_len 1 (machines - 1))) 0 jobs
      (λ j low high. made_pass _ (order machines j) 1 (machines - 1) (λ k more less. refl))) in
      let all = overlaps_write (range_with_len 0 machines) in
      flat_map-append sequences_in orders (map (λ q. constraint.NoOverlap (record { 0 = q }) None false) (range_with_len 0 machines)) ∙ (λ i. none i ++ all i)

  listed_all : from_place (count_by is_named_sequence m.sequences) (flat_map sequences_in m.constraints) ≡ places (count_by is_named_sequence m.sequences) (filter (λ d. not (is_named_sequence d)) m.sequences)
  listed_all =
      let none = no_count in
      let all = written_sequences in
      let unnamed = all_pass (λ d. not (is_named_sequence d)) m.sequences (each_sequence (λ d. not (is_named_sequence d)) (λ q. refl)) in
      (λ i. from_place (none i) (all i))
      ∙ all_pass (nat_le 0) (range_with_len 0 machines) (all_numbers _ 0 machines (λ k low high. is_at_most 0 k low))
      ∙ sym ((λ i. places (none i) (unnamed i)) ∙ places_are (sequence jobs machines) 0 machines)

  pub written : IsWritten m
  written = record {
    sequences = pairs_made _ (sequence jobs machines) 0 machines (λ i j low less high. refl);
    cumuls = refl;
    listed = listed_all;
    unnamed = ap (from_place 0) (nothing_of cumuls_in m.constraints (each_constraint seed jobs machines z (λ c. is_empty (cumuls_in c)) (λ j k low more less. refl) (λ q less. refl)));
    untyped = each_sequence (λ d. is_named_sequence d || is_none d.types) (λ q. refl);
    parts = refl;
    constraints = each_constraint seed jobs machines z (is_written m) (λ j k low more less. refl) (λ q less. refl);
    objective = and_from _ true (ap is_written_expr (aim_is seed jobs machines z) ∙ expr_written (lasts seed jobs machines z)) refl;
    names = all_named seed jobs machines z (λ n. not (list_any (bytes_eq n) left_out_words)) (λ j k first second. name_kept j k);
  }

pub shops_are_written : ShopsAreWritten
shops_are_written seed jobs machines within = let z = sizes jobs machines within in (valid seed jobs machines z, written seed jobs machines z)
