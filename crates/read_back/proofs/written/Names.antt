-- A name that has a number of a sort stands for a thing that has a name.
use Rattle.std.proofs.Common.{◌≡◌, ℕ, zero, suc, ◌<◌, Bool, true, false, cond, List, [], ◌∷◌, map, length, slice_get, slice_index_or, Option, Some, None, is_some, is_none, unwrap_or, nat_lt, refl, ap, ◌∙◌, arith}
use Rattle.std.specs.List.{list_all, position_or_len}
use Rattle.std.specs.Str.{bytes_eq}
use Rattle.std.proofs.lemmas.Bool.Decides.{nat_tests}
use Rattle.std.proofs.lemmas.List.Sums.{passes_at_first}
use Rattle.std.proofs.lemmas.Option.{slice_get-get_or}
use Rattle.std.proofs.lemmas.Bool.{and_parts}
use Rattle.base_laws.specs.laws.Numbers.{one_less, none_below_zero}
use Rattle.sched_model.specs.Words.{passes}
use Rattle.sched_model.specs.Data.{Data}
use Rattle.cpo_elab.specs.declared.names.Sort.{Sort}
use Rattle.cpo_elab.specs.declared.names.Sort.TheVariants.{Sequence, Cumulated}
use Rattle.cpo_elab.specs.Named.{names_of, number_of, id_of, seq_of, cum_of}
use Rattle.cpo_elab.specs.Judged.{is_of_other_sort}
use Rattle.cpo_elab.specs.NamedFirst.{is_named_sequence, is_named_cumul}

is_below : (i n : ℕ) → nat_lt i n ≡ true → i < n
is_below i n h = grind (arith, nat_tests)

found_passes : {X : Type 0} (p : X → Bool) (xs : List X) (d : X) (c : Bool) → nat_lt (position_or_len p xs) (length xs) ≡ c → is_none (cond c (Some (position_or_len p xs)) None) ≡ false
    → passes p (slice_get xs (unwrap_or (cond c (Some (position_or_len p xs)) None) 0)) ≡ true
found_passes p xs d true is there =
    let within = is_below (position_or_len p xs) (length xs) is in
    ap (passes p) (slice_get-get_or xs (position_or_len p xs) d within) ∙ passes_at_first p xs d within
found_passes p xs d false is there = cc there

at_number : (m : Data) (sort : Sort) (n : List ℕ) → is_of_other_sort m sort n ≡ false → passes (passes (bytes_eq n)) (slice_get (names_of m sort) (id_of m sort n)) ≡ true
unfolding number_of
at_number m sort n there = found_passes (passes (bytes_eq n)) (names_of m sort) None _ refl there

some_name : {Y : Type 0} (q : Y → Bool) (o : Option Y) → passes q o ≡ true → is_some o ≡ true
some_name q None h = cc h
some_name q (Some y) h = refl

named_at : {X Y : Type 0} (f : X → Option Y) (q : Y → Bool) (xs : List X) (i : ℕ) → passes (passes q) (slice_get (map f xs) i) ≡ true → passes (λ x. is_some (f x)) (slice_get xs i) ≡ true
named_at f q [] i h = cc h
named_at f q (x ∷ xs) zero h = some_name q (f x) h
named_at f q (x ∷ xs) (suc i) h = named_at f q xs i h

pub sequence_is_named : (m : Data) (n : List ℕ) → is_of_other_sort m Sequence n ≡ false → passes is_named_sequence (slice_get m.sequences (seq_of m n).0) ≡ true
sequence_is_named m n there = named_at (λ d. d.name) (bytes_eq n) m.sequences (seq_of m n).0 (at_number m Sequence n there)

pub cumul_is_named : (m : Data) (n : List ℕ) → is_of_other_sort m Cumulated n ≡ false → passes is_named_cumul (slice_get m.cumuls (cum_of m n).0) ≡ true
cumul_is_named m n there = named_at (λ d. d.name) (bytes_eq n) m.cumuls (cum_of m n).0 (at_number m Cumulated n there)

pub item_passes : {X : Type 0} (q : X → Bool) (xs : List X) (i : ℕ) (d : X) → list_all q xs ≡ true → nat_lt i (length xs) ≡ true → q (slice_index_or xs i d) ≡ true
item_passes q [] i d all within = absurd (none_below_zero i within)
item_passes q (x ∷ xs) zero d all within = (and_parts (q x) (list_all q xs) all).0
item_passes q (x ∷ xs) (suc i) d all within = item_passes q xs i d (and_parts (q x) (list_all q xs) all).1 (one_less i (length xs) within)
