-- The definitions of a valid model at their places: valid, with names that are words.
use Rattle.std.proofs.Common.{◌≡◌, ◌<◌, ℕ, zero, suc, Bool, true, List, [], ◌∷◌, ◌++◌, map, filter_map, length, Option, Some, None, slice_get, get_or, slice_index_or, refl, sym, ap, ◌∙◌, arith}
use Rattle.std.specs.List.{cons_option, list_all}
use Rattle.std.proofs.lemmas.Bool.{and_parts}
use Rattle.std.proofs.lemmas.List.Folds.{list_all-append}
use Rattle.sched_model.specs.declared.types.SequenceDef.{SequenceDef}
use Rattle.sched_model.specs.declared.types.StateDef.{StateDef}
use Rattle.sched_model.specs.declared.types.Assignment.{Assignment}
use Rattle.sched_model.specs.Data.{Data}
use Rattle.sched_model.specs.Domain.{lists_present, are_segments}
use Rattle.sched_model.specs.Valid.{IsValid, is_sequence_def, is_state_def, is_name, all_names}
use Rattle.sched_model.specs.laws.Limits.{limits_of}
use Rattle.textline.specs.Lines.{Bytes}
use Rattle.read_schedule.specs.code.Rows.{order_row, state_row}
use Rattle.read_schedule.specs.code.Reads.{are_all_itvs, are_spelled, sequence_at, state_at}
use Rattle.read_schedule.proofs.spelling.Taken.{Told}
use Rattle.read_schedule.proofs.spelling.Spelled.{label_is_word, orders_told, segments_told}
use Rattle.sched_text.specs.laws.Names.{name_is_word}

pub at_place : {X : Type 0} (p : X → Bool) (xs : List X) (i : ℕ) (d : X) → list_all p xs ≡ true → i < length xs → p (slice_index_or xs i d) ≡ true
at_place p [] i d h within = absurd (omega (arith, within))
at_place p (x ∷ xs) zero d h within = (and_parts (p x) (list_all p xs) h).0
at_place p (x ∷ xs) (suc i) d h within = at_place p xs i d (and_parts (p x) (list_all p xs) h).1 (omega (arith, within))

pub got_at : {X : Type 0} (xs : List X) (i : ℕ) (d : X) → i < length xs → slice_get xs i ≡ Some (slice_index_or xs i d)
got_at [] i d within = absurd (omega (arith, within))
got_at (x ∷ xs) zero d within = refl
got_at (x ∷ xs) (suc i) d within = got_at xs i d (omega (arith, within))

pub item_of : {X : Type 0} (xs : List X) (i : ℕ) (d : X) → i < length xs → slice_index_or xs i d ≡ get_or xs i (slice_index_or xs i d)
item_of [] i d within = absurd (omega (arith, within))
item_of (x ∷ xs) zero d within = refl
item_of (x ∷ xs) (suc i) d within = item_of xs i d (omega (arith, within))

front : {X : Type 0} (p : X → Bool) (xs ys : List X) → list_all p (xs ++ ys) ≡ true → list_all p xs ≡ true
front p xs ys h = (and_parts (list_all p xs) (list_all p ys) (sym (list_all-append p xs ys) ∙ h)).0

back : {X : Type 0} (p : X → Bool) (xs ys : List X) → list_all p (xs ++ ys) ≡ true → list_all p ys ≡ true
back p xs ys h = (and_parts (list_all p xs) (list_all p ys) (sym (list_all-append p xs ys) ∙ h)).1

all_named : (m : Data) → IsValid m → list_all is_name (all_names m) ≡ true
all_named m valid = (and_parts (list_all is_name (all_names m)) _ valid.names).0

sequence_names : (m : Data) → IsValid m → list_all is_name (filter_map (λ d. d.name) m.sequences) ≡ true
sequence_names m valid =
    let a = map (λ d. d.name) m.intervals in
    let b = map (λ d. d.name) m.matrices in
    let c = filter_map (λ d. d.name) m.sequences in
    let d = filter_map (λ d. d.name) m.cumuls in
    let e = map (λ d. d.name) m.states in
    back is_name (a ++ b) c (front is_name (a ++ b ++ c) d (front is_name (a ++ b ++ c ++ d) e (all_named m valid)))

state_names : (m : Data) → IsValid m → list_all is_name (map (λ d. d.name) m.states) ≡ true
state_names m valid =
    let a = map (λ d. d.name) m.intervals in
    let b = map (λ d. d.name) m.matrices in
    let c = filter_map (λ d. d.name) m.sequences in
    let d = filter_map (λ d. d.name) m.cumuls in
    back is_name (a ++ b ++ c ++ d) (map (λ d. d.name) m.states) (all_named m valid)

named_sequence : (ds : List SequenceDef) (i : ℕ) (d : SequenceDef) (n : Bytes) → list_all is_name (filter_map (λ d. d.name) ds) ≡ true → i < length ds → (slice_index_or ds i d).name ≡ Some n → is_name n ≡ true
named_sequence [] i d n h within is = absurd (omega (arith, within))
named_sequence (c ∷ ds) i d n h within is = by c.name refl h i within is (λ rest j less same. named_sequence ds j d n rest less same)
  where
    by : (o : Option Bytes) → c.name ≡ o → list_all is_name (cons_option o (filter_map (λ d. d.name) ds)) ≡ true → (i : ℕ) → i < length (c ∷ ds) → (slice_index_or (c ∷ ds) i d).name ≡ Some n
        → (list_all is_name (filter_map (λ d. d.name) ds) ≡ true → (j : ℕ) → j < length ds → (slice_index_or ds j d).name ≡ Some n → is_name n ≡ true) → is_name n ≡ true
    by None none h zero within is f = cc
    by (Some w) some h zero within is f = let same : w ≡ n = cc in ap is_name (sym same) ∙ (and_parts (is_name w) _ h).0
    by None none h (suc i) within is f = f h i (omega (arith, within)) is
    by (Some w) some h (suc i) within is f = f (and_parts (is_name w) _ h).1 i (omega (arith, within)) is

state_named : (ds : List StateDef) (i : ℕ) (d : StateDef) → list_all is_name (map (λ d. d.name) ds) ≡ true → i < length ds → is_name (slice_index_or ds i d).name ≡ true
state_named [] i d h within = absurd (omega (arith, within))
state_named (c ∷ ds) zero d h within = (and_parts (is_name c.name) _ h).0
state_named (c ∷ ds) (suc i) d h within = state_named ds i d (and_parts (is_name c.name) _ h).1 (omega (arith, within))

pub order_at : (m : Data) → IsValid m → (a : Assignment) (i : ℕ) → i < length m.sequences → Told (order_row m i (sequence_at m i)) (are_all_itvs m) (lists_present a (sequence_at m i))
order_at m valid a i within =
    let none : SequenceDef = record { name = None; members = []; types = None } in
    orders_told m valid a i (sequence_at m i) (at_place (is_sequence_def m) m.sequences i none valid.sequences within)
    (label_is_word i (sequence_at m i).name (omega (arith, within, (limits_of m valid.limits).sequences)) (λ n is. name_is_word n (named_sequence m.sequences i none n (sequence_names m valid) within is)))

pub segments_at : (m : Data) → IsValid m → (i : ℕ) → i < length m.states → Told (state_row i (state_at m i)) are_spelled (are_segments m (state_at m i))
segments_at m valid i within =
    let none : StateDef = record { name = []; matrix = None } in
    segments_told m i (state_at m i) (at_place (is_state_def m) m.states i none valid.states within) (name_is_word (state_at m i).name (state_named m.states i none (state_names m valid) within))
