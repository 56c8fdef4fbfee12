-- A model that is fine stays so as its named sequences and functions come to stand in front: it is then as a text can write it.
use Rattle.std.proofs.Common.{◌≡◌, ℕ, Bool, true, not, ◌||◌, List, [], ◌∷◌, ◌++◌, map, Option, Some, None, is_none, refl, sym, ap, ◌∙◌}
use Rattle.std.specs.List.{list_all, filter, filter_map, flat_map, count_by, cons_option}
use Rattle.std.proofs.lemmas.List.{map-append}
use Rattle.std.proofs.lemmas.Bool.{and_parts, and_from}
use Rattle.base_laws.specs.laws.Items.{all_append, all_weaker}
use Rattle.sched_base.specs.declared.ids.Seq.{Seq}
use Rattle.sched_model.specs.declared.types.SequenceDef.{SequenceDef}
use Rattle.sched_model.specs.declared.types.CumulDef.{CumulDef}
use Rattle.sched_model.specs.declared.types.Constraint.{Constraint}
use Rattle.sched_model.specs.declared.types.Constraint.TheVariants.{NoOverlap, First, Last, Before, Prev, CumulIn}
use Rattle.sched_model.specs.Words.{passes, passes_if_any, is_empty}
use Rattle.sched_model.specs.Data.{Data}
use Rattle.sched_model.specs.Valid.{all_names}
use Rattle.cpo_elab.specs.NamedFirst.{is_named_sequence, is_named_cumul, parted, new_place, sequence_place, cumul_place, new_seq, renumbered, named_first}
use Rattle.cpo_elab.specs.lemmas.Parted.{at_new_place, all_parted}
use Rattle.read_back.specs.Written.{IsWritten, is_named_at, is_written, sequences_in, cumuls_in, places, from_place}
use Rattle.read_back.proofs.Truth.{all_map}
use Rattle.read_back.proofs.written.Halves.{behind, same_count, is_parted_now}
use Rattle.read_back.proofs.written.Places.{Counted, counted_places}
use Rattle.read_back.proofs.written.Fine.{Fine, is_kept, is_fine_sequence, is_fine_cumul, has_parts}

-- what constraints write, at the new places

move_sequence : (s c : ℕ → ℕ) (k : Constraint) → sequences_in (renumbered s c k) ≡ map s (sequences_in k)
move_sequence s c (NoOverlap p matrix direct) = refl
move_sequence s c other = refl

move_cumul : (s c : ℕ → ℕ) (k : Constraint) → cumuls_in (renumbered s c k) ≡ map c (cumuls_in k)
move_cumul s c (CumulIn f w lo hi) = refl
move_cumul s c other = refl

move_all : (f : Constraint → List ℕ) (r : Constraint → Constraint) (p : ℕ → ℕ) → ((k : Constraint) → f (r k) ≡ map p (f k)) → (ks : List Constraint) → flat_map f (map r ks) ≡ map p (flat_map f ks)
move_all f r p one [] = refl
move_all f r p one (k ∷ ks) = (λ i. one k i ++ move_all f r p one ks i) ∙ sym (map-append p (f k) (flat_map f ks))

moved_places : {X : Type 0} (first : X → Bool) (xs : List X) (is moved : List ℕ) → moved ≡ map (new_place first xs) is → Counted first xs is
    → from_place (count_by first (parted first xs)) moved ≡ places (count_by first (parted first xs)) (filter (λ x. not (first x)) (parted first xs))
moved_places first xs is moved same counted =
    (λ i. from_place (same_count first xs i) (same i))
    ∙ counted_places first xs is counted
    ∙ sym (λ i. places (same_count first xs i) (behind first xs i))

-- constraints stay written

named_moved : (m : Data) (p : Seq) → is_named_at m p ≡ true → is_named_at (named_first m) (new_seq (sequence_place m) p) ≡ true
named_moved m p h = ap (passes is_named_sequence) (at_new_place is_named_sequence m.sequences p.0) ∙ h

written_moved : (m : Data) (k : Constraint) → is_written m k ≡ true → is_written (named_first m) (renumbered (sequence_place m) (cumul_place m) k) ≡ true
written_moved m (First p a) h = named_moved m p h
written_moved m (Last p a) h = named_moved m p h
written_moved m (Before p a b) h = named_moved m p h
written_moved m (Prev p a b) h = named_moved m p h
written_moved m other h = h

-- names

some_kept : {Y : Type 0} (q : Y → Bool) (o : Option Y) (ys : List Y) → passes_if_any q o ≡ true → list_all q ys ≡ true → list_all q (cons_option o ys) ≡ true
some_kept q None ys here rest = rest
some_kept q (Some y) ys here rest = and_from (q y) (list_all q ys) here rest

all_kept : {X Y : Type 0} (q : Y → Bool) (h : X → Option Y) (xs : List X) → list_all (λ x. passes_if_any q (h x)) xs ≡ true → list_all q (filter_map h xs) ≡ true
all_kept q h [] all = refl
all_kept q h (x ∷ xs) all =
    let parts = and_parts (passes_if_any q (h x)) (list_all (λ x. passes_if_any q (h x)) xs) all in
    some_kept q (h x) (filter_map h xs) parts.0 (all_kept q h xs parts.1)

sequence_kept : (d : SequenceDef) → is_fine_sequence d ≡ true → passes_if_any is_kept d.name ≡ true
sequence_kept d h = (and_parts (passes_if_any is_kept d.name) (is_named_sequence d || is_none d.types) h).0

sequence_untyped : (d : SequenceDef) → is_fine_sequence d ≡ true → (is_named_sequence d || is_none d.types) ≡ true
sequence_untyped d h = (and_parts (passes_if_any is_kept d.name) (is_named_sequence d || is_none d.types) h).1

cumul_kept : (f : CumulDef) → is_fine_cumul f ≡ true → passes_if_any is_kept f.name ≡ true
cumul_kept f h = (and_parts (passes_if_any is_kept f.name) (not (is_empty f.parts)) h).0

all_of_five : {X : Type 0} (q : X → Bool) (a b c d e : List X) → list_all q a ≡ true → list_all q b ≡ true → list_all q c ≡ true → list_all q d ≡ true → list_all q e ≡ true → list_all q (a ++ b ++ c ++ d ++ e) ≡ true
all_of_five q a b c d e first second third fourth fifth =
    all_append q (a ++ b ++ c ++ d) e (all_append q (a ++ b ++ c) d (all_append q (a ++ b) c (all_append q a b first second) third) fourth) fifth

names_kept : (m : Data) → list_all (λ d. is_kept d.name) m.intervals ≡ true → list_all (λ d. is_kept d.name) m.matrices ≡ true → list_all is_fine_sequence m.sequences ≡ true
    → list_all is_fine_cumul m.cumuls ≡ true → list_all (λ d. is_kept d.name) m.states ≡ true → list_all is_kept (all_names m) ≡ true
names_kept m intervals matrices sequences cumuls states =
    all_of_five is_kept (map (λ d. d.name) m.intervals) (map (λ d. d.name) m.matrices) (filter_map (λ d. d.name) m.sequences) (filter_map (λ f. f.name) m.cumuls) (map (λ d. d.name) m.states)
    (all_map is_kept (λ d. d.name) m.intervals intervals)
    (all_map is_kept (λ d. d.name) m.matrices matrices)
    (all_kept is_kept (λ d. d.name) m.sequences (all_weaker is_fine_sequence (λ d. passes_if_any is_kept d.name) sequence_kept m.sequences sequences))
    (all_kept is_kept (λ f. f.name) m.cumuls (all_weaker is_fine_cumul (λ f. passes_if_any is_kept f.name) cumul_kept m.cumuls cumuls))
    (all_map is_kept (λ d. d.name) m.states states)

-- the whole

pub written_model : (m : Data) → Fine m → IsWritten (named_first m)
written_model m fine =
    let sequences = all_parted is_fine_sequence is_named_sequence m.sequences fine.sequences in
    let cumuls = all_parted is_fine_cumul is_named_cumul m.cumuls fine.cumuls in
    record {
      sequences = is_parted_now is_named_sequence m.sequences;
      cumuls = is_parted_now is_named_cumul m.cumuls;
      listed = moved_places is_named_sequence m.sequences (flat_map sequences_in m.constraints) _
          (move_all sequences_in (renumbered (sequence_place m) (cumul_place m)) (sequence_place m) (move_sequence (sequence_place m) (cumul_place m)) m.constraints) fine.listed;
      unnamed = moved_places is_named_cumul m.cumuls (flat_map cumuls_in m.constraints) _
          (move_all cumuls_in (renumbered (sequence_place m) (cumul_place m)) (cumul_place m) (move_cumul (sequence_place m) (cumul_place m)) m.constraints) fine.unnamed;
      untyped = all_weaker is_fine_sequence (λ d. is_named_sequence d || is_none d.types) sequence_untyped (parted is_named_sequence m.sequences) sequences;
      parts = all_weaker is_fine_cumul (λ f. not (is_empty f.parts)) has_parts (parted is_named_cumul m.cumuls) cumuls;
      constraints = all_map (is_written (named_first m)) (renumbered (sequence_place m) (cumul_place m)) m.constraints
          (all_weaker (is_written m) (λ k. is_written (named_first m) (renumbered (sequence_place m) (cumul_place m) k)) (written_moved m) m.constraints fine.constraints);
      objective = fine.objective;
      names = names_kept (named_first m) fine.intervals fine.matrices sequences cumuls fine.states;
    }
