-- What the model of some first statements of a text is beyond being valid, where none of them deserves a number.
use Rattle.std.proofs.Common.{◌≡◌, ℕ, zero, suc, nat_lt, Bool, true, not, ◌&&◌, ◌||◌, List, [], ◌∷◌, ◌++◌, length, slice_get, is_none, refl, ap, ◌∙◌}
use Rattle.std.specs.List.{list_all, list_any, flat_map}
use Rattle.std.specs.Str.{bytes_eq}
use Rattle.std.proofs.lemmas.List.{append-nil}
use Rattle.std.proofs.lemmas.Grind.{flat_map-append}
use Rattle.std.proofs.lemmas.Bool.{and_parts, and_from}
use Rattle.base_laws.specs.laws.Items.{all_append, all_weaker}
use Rattle.sched_base.specs.declared.ids.Seq.{Seq}
use Rattle.sched_model.specs.declared.types.SequenceDef.{SequenceDef}
use Rattle.sched_model.specs.declared.types.CumulDef.{CumulDef}
use Rattle.sched_model.specs.declared.types.Constraint.{Constraint}
use Rattle.sched_model.specs.declared.types.Constraint.TheVariants.{NoOverlap, First, Last, Before, Prev, CumulIn}
use Rattle.sched_model.specs.Words.{passes, passes_if_any, is_empty}
use Rattle.sched_model.specs.Data.{Data}
use Rattle.sched_model.specs.Rank.{criteria_of}
use Rattle.sched_model.specs.Valid.{IsValid, is_constraint, is_seq, fits_types}
use Rattle.cpo_text.specs.Runs.{left_out_words}
use Rattle.cpo_elab.specs.NamedFirst.{is_named_sequence, is_named_cumul}
use Rattle.read_back.specs.Written.{is_written_expr, is_named_at, is_written, sequences_in, cumuls_in}
use Rattle.read_back.proofs.written.Places.{Counted, are_within}
use Rattle.base_laws.specs.laws.Truth.{five_true}

-- no word that the language leaves out
abbrev pub is_kept : List ℕ → Bool
is_kept n = not (list_any (bytes_eq n) left_out_words)

abbrev pub is_fine_sequence : SequenceDef → Bool
is_fine_sequence d = passes_if_any is_kept d.name && (is_named_sequence d || is_none d.types)

abbrev pub is_fine_cumul : CumulDef → Bool
is_fine_cumul f = passes_if_any is_kept f.name && not (is_empty f.parts)

pub has_parts : (f : CumulDef) → is_fine_cumul f ≡ true → not (is_empty f.parts) ≡ true
has_parts f h = (and_parts (passes_if_any is_kept f.name) (not (is_empty f.parts)) h).1

abbrev pub sequence_ids : List Constraint → List ℕ
sequence_ids cs = flat_map sequences_in cs

abbrev pub cumul_ids : List Constraint → List ℕ
cumul_ids cs = flat_map cumuls_in cs

pub record Fine (m : Data) : Type 0 where
  pub intervals : list_all (λ d. is_kept d.name) m.intervals ≡ true
  pub matrices : list_all (λ d. is_kept d.name) m.matrices ≡ true
  pub sequences : list_all is_fine_sequence m.sequences ≡ true
  pub cumuls : list_all is_fine_cumul m.cumuls ≡ true
  pub states : list_all (λ d. is_kept d.name) m.states ≡ true
  pub constraints : list_all (is_written m) m.constraints ≡ true
  pub objective : passes_if_any (λ o. list_all is_written_expr (criteria_of o)) m.objective ≡ true
  -- each without a name is written in one constraint, in the order of their numbers
  pub listed : Counted is_named_sequence m.sequences (sequence_ids m.constraints)
  pub unnamed : Counted is_named_cumul m.cumuls (cumul_ids m.constraints)

-- constraints stay written as sequences are added

pub written_grows : (m n : Data) → ((p : Seq) → is_named_at m p ≡ true → is_named_at n p ≡ true) → (c : Constraint) → is_written m c ≡ true → is_written n c ≡ true
written_grows m n more (First p a) h = more p h
written_grows m n more (Last p a) h = more p h
written_grows m n more (Before p a b) h = more p h
written_grows m n more (Prev p a b) h = more p h
written_grows m n more other h = h

pub all_grow : (m n : Data) → ((p : Seq) → is_named_at m p ≡ true → is_named_at n p ≡ true) → (cs : List Constraint) → list_all (is_written m) cs ≡ true → list_all (is_written n) cs ≡ true
all_grow m n more cs all = all_weaker (is_written m) (is_written n) (written_grows m n more) cs all

pub passing_stays : {X : Type 0} (q : X → Bool) (xs ys : List X) (i : ℕ) → passes q (slice_get xs i) ≡ true → passes q (slice_get (xs ++ ys) i) ≡ true
passing_stays q [] ys i h = cc h
passing_stays q (x ∷ xs) ys zero h = h
passing_stays q (x ∷ xs) ys (suc i) h = passing_stays q xs ys i h

-- a valid model has what its constraints name

sequence_within : (m : Data) (c : Constraint) → is_constraint m c ≡ true → are_within m.sequences (sequences_in c) ≡ true
sequence_within m (NoOverlap p matrix direct) h = and_from (is_seq m p) true (and_parts (is_seq m p) (passes_if_any (fits_types m p) matrix) h).0 refl
sequence_within m other h = refl

cumul_within : (m : Data) (c : Constraint) → is_constraint m c ≡ true → are_within m.cumuls (cumuls_in c) ≡ true
cumul_within m (CumulIn f w lo hi) h = and_from (nat_lt f.0 (length m.cumuls)) true (five_true (nat_lt f.0 (length m.cumuls)) _ _ _ _ h).0 refl
cumul_within m other h = refl

sequences_within : (m : Data) (cs : List Constraint) → list_all (is_constraint m) cs ≡ true → are_within m.sequences (sequence_ids cs) ≡ true
sequences_within m [] all = refl
sequences_within m (c ∷ cs) all =
    let parts = and_parts (is_constraint m c) _ all in
    all_append (λ i. nat_lt i (length m.sequences)) (sequences_in c) (sequence_ids cs) (sequence_within m c parts.0) (sequences_within m cs parts.1)

cumuls_within : (m : Data) (cs : List Constraint) → list_all (is_constraint m) cs ≡ true → are_within m.cumuls (cumul_ids cs) ≡ true
cumuls_within m [] all = refl
cumuls_within m (c ∷ cs) all =
    let parts = and_parts (is_constraint m c) _ all in
    all_append (λ i. nat_lt i (length m.cumuls)) (cumuls_in c) (cumul_ids cs) (cumul_within m c parts.0) (cumuls_within m cs parts.1)

pub seqs_within : (m : Data) → IsValid m → are_within m.sequences (sequence_ids m.constraints) ≡ true
seqs_within m valid = sequences_within m m.constraints valid.constraints

pub cums_within : (m : Data) → IsValid m → are_within m.cumuls (cumul_ids m.constraints) ≡ true
cums_within m valid = cumuls_within m m.constraints valid.constraints

-- one more constraint
pub ids_push : (f : Constraint → List ℕ) (cs : List Constraint) (c : Constraint) → flat_map f (cs ++ c ∷ []) ≡ flat_map f cs ++ f c
ids_push f cs c = flat_map-append f cs (c ∷ []) ∙ ap (λ is. flat_map f cs ++ is) (append-nil (f c))
