-- A definition that deserves no number leaves the model valid.
use Rattle.std.proofs.Common.{◌≡◌, ℕ, suc, ◌*◌, true, false, List, [], ◌∷◌, ◌++◌, map, flat_map, filter_map, length, Option, Some, None, nat_le, nat_lt, nat_eq, refl, ap, subst, ◌∙◌, arith}
use Rattle.std.specs.List.{list_all, list_any}
use Rattle.std.proofs.lemmas.Bool.Decides.{nat_tests}
use Rattle.std.proofs.lemmas.List.{length-map}
use Rattle.std.proofs.lemmas.Bool.{and_parts, and_from}
use Rattle.base_laws.specs.laws.Items.{all_push}
use Rattle.base_laws.specs.laws.Truth.{all_three, all_four}
use Rattle.sched_model.specs.declared.types.SequenceDef.{SequenceDef}
use Rattle.sched_model.specs.declared.types.CumulDef.{CumulDef}
use Rattle.sched_model.specs.Data.{Data, with_interval, with_matrix, with_sequence, with_cumul, with_state}
use Rattle.sched_model.specs.Valid as valid
use Rattle.sched_model.specs.Valid.{IsValid, is_within_limits, is_name, are_names, all_names, is_interval_def, is_matrix_def, is_sequence_def, is_cumul_def, is_state_def, is_amount, is_itv, are_parts, are_distinct}
use Rattle.cpo_text.specs.declared.tree.Int.{Int}
use Rattle.cpo_text.specs.declared.tree.Ivarg.{Ivarg}
use Rattle.cpo_text.specs.declared.cumul.Cumul.{Cumul}
use Rattle.cpo_text.specs.declared.tree.Definition.{Definition}
use Rattle.cpo_text.specs.declared.tree.Definition.TheVariants.{IntervalVar, SequenceVar, TransitionMatrix, StateFunction, StepFunction, Cumulative}
use Rattle.cpo_text.specs.declared.tree.Statement.TheVariants.{Define}
use Rattle.cpo_elab.specs.declared.names.Sort.TheVariants.{Interval}
use Rattle.cpo_elab.specs.Named.{itv_of, itvs_of}
use Rattle.cpo_elab.specs.Literals.{size_of, int_of}
use Rattle.cpo_elab.specs.Elaborated.{plain_interval, interval_of, types_in, sequence_named, matrix_named, state_named, cumul_named, defined}
use Rattle.cpo_elab.specs.Judged.{is_of_other_sort}
use Rattle.cpo_elab.specs.Shaped.{is_spelt}
use Rattle.cpo_elab.proofs.judging.Truth.{not_true}
use Rattle.cpo_elab.proofs.named.Inserted.{Inserted, inserted_left, inserted_right, names_inserted, absent_name, map_inserted, named_inserted, unnamed_same}
use Rattle.cpo_elab.proofs.named.Ids.{right_itvs, right_mat}
use Rattle.cpo_elab.proofs.values.Amounts.{types_small, cells_small, cell_number}
use Rattle.cpo_elab.proofs.values.Intervals.{with_all, plain_fits}
use Rattle.cpo_elab.proofs.values.Functions.{parts_well_made}
use Rattle.cpo_elab.proofs.adding.Extends.{extends_interval, extends_matrix, extends_sequence, extends_cumul, extends_state}
use Rattle.cpo_elab.proofs.adding.Kept.{kept}
use Rattle.cpo_elab.proofs.judging.Facts.{Facts}
use Rattle.cpo_elab.specs.lemmas.Intervals.{name_kept}

short_enough : (n : ℕ) → nat_lt 64 (suc n) ≡ false → nat_lt n 64 ≡ true
short_enough n h = grind (arith, nat_tests)

names_are_short : (n : List ℕ) → is_spelt n ≡ true → nat_lt 64 (length n) ≡ false → is_name n ≡ true
names_are_short [] spelt short = spelt
names_are_short (c ∷ cs) spelt short =
    let parts = and_parts (valid.is_letter c) (list_all valid.is_name_byte cs) spelt in
    all_three (valid.is_letter c) (list_all valid.is_name_byte cs) _ parts.0 parts.1 (short_enough (length cs) short)

-- the names with one more
named : (m n : Data) (name : List ℕ) (d : Definition) → IsValid m → is_spelt name ≡ true → Facts m (Define name d) → Inserted name (all_names m) (all_names n) → are_names (all_names n) ≡ true
named m n name d before spelt facts more = names_inserted name (all_names m) (all_names n) more before.names (names_are_short name spelt facts.short) (absent_name m name facts.fresh)

-- intervals

interval_names : (m : Data) (name : List ℕ) (args : List Ivarg) → Inserted name (all_names m) (all_names (with_interval (interval_of name args) m))
interval_names m name args =
    let d = interval_of name args in
    inserted_left name _ _ _ (inserted_left name _ _ _ (inserted_left name _ _ _ (inserted_left name _ _ _
    (subst (λ x. Inserted x (map (λ d. d.name) m.intervals) (map (λ d. d.name) (m.intervals ++ d ∷ []))) (name_kept (plain_interval name) args) (map_inserted (λ d. d.name) m.intervals d)))))

define_interval : (m : Data) (name : List ℕ) (args : List Ivarg) → IsValid m → is_spelt name ≡ true → Facts m (Define name (IntervalVar args)) → IsValid (with_interval (interval_of name args) m)
define_interval m name args before spelt facts =
    let d = interval_of name args in
    let rest = kept m (with_interval d m) (extends_interval d m) before in
    record {
      names = named m (with_interval d m) name (IntervalVar args) before spelt facts (interval_names m name args);
      intervals = all_push is_interval_def m.intervals d before.intervals (with_all (plain_interval name) args facts.inside facts.ordered facts.sizes (plain_fits name));
      matrices = before.matrices;
      sequences = rest.sequences;
      cumuls = rest.cumuls;
      states = rest.states;
      constraints = rest.constraints;
      objective = rest.objective;
      criteria = rest.criteria;
      limits = facts.room;
    }

-- sequences

with_sequence_valid : (m : Data) (d : SequenceDef) → IsValid m → are_names (all_names (with_sequence d m)) ≡ true → is_sequence_def m d ≡ true → is_within_limits (with_sequence d m) ≡ true → IsValid (with_sequence d m)
with_sequence_valid m d before names here limits =
    let rest = kept m (with_sequence d m) (extends_sequence d m) before in
    record {
      names = names;
      intervals = before.intervals;
      matrices = before.matrices;
      sequences = all_push (is_sequence_def m) m.sequences d before.sequences here;
      cumuls = rest.cumuls;
      states = rest.states;
      constraints = rest.constraints;
      objective = rest.objective;
      criteria = rest.criteria;
      limits = limits;
    }

pub members_made : (m : Data) (ns : List (List ℕ)) → list_any (is_of_other_sort m Interval) ns ≡ false → are_distinct (itvs_of m ns) ≡ true → are_parts m (itvs_of m ns) ≡ true
members_made m ns uses once = and_from (list_all (is_itv m) (itvs_of m ns)) (are_distinct (itvs_of m ns)) (right_itvs m ns uses) once

few_members : (m : Data) (ns : List (List ℕ)) → nat_le (length ns) 500 ≡ true → nat_le (length (itvs_of m ns)) 500 ≡ true
few_members m ns few = ap (λ n. nat_le n 500) (length-map ns (itv_of m)) ∙ few

pub listed_made : (m : Data) (name : Option (List ℕ)) (ns : List (List ℕ)) → list_any (is_of_other_sort m Interval) ns ≡ false → are_distinct (itvs_of m ns) ≡ true → nat_le (length ns) 500 ≡ true
    → is_sequence_def m (sequence_named m name ns None) ≡ true
listed_made m name ns uses once few = all_three (are_parts m (itvs_of m ns)) (nat_le (length (itvs_of m ns)) 500) true (members_made m ns uses once) (few_members m ns few) refl

typed_made : (m : Data) (name : List ℕ) (ns : List (List ℕ)) (types : List Int) → Facts m (Define name (SequenceVar ns (Some types))) → is_sequence_def m (sequence_named m (Some name) ns (Some types)) ≡ true
typed_made m name ns types facts =
    all_three (are_parts m (itvs_of m ns)) (nat_le (length (itvs_of m ns)) 500) _ (members_made m ns facts.uses facts.once) (few_members m ns facts.members)
    (and_from (nat_eq (length (types_in types)) (length (itvs_of m ns))) _ ((λ i. nat_eq (length-map types (λ n. size_of n.size) i) (length-map ns (itv_of m) i)) ∙ not_true _ facts.fitting) (types_small types facts.signs facts.small))

sequence_made : (m : Data) (name : List ℕ) (ns : List (List ℕ)) (types : Option (List Int)) → Facts m (Define name (SequenceVar ns types)) → is_sequence_def m (sequence_named m (Some name) ns types) ≡ true
sequence_made m name ns None facts = listed_made m (Some name) ns facts.uses facts.once facts.members
sequence_made m name ns (Some types) facts = typed_made m name ns types facts

define_sequence : (m : Data) (name : List ℕ) (ns : List (List ℕ)) (types : Option (List Int)) → IsValid m → is_spelt name ≡ true → Facts m (Define name (SequenceVar ns types)) → IsValid (with_sequence (sequence_named m (Some name) ns types) m)
define_sequence m name ns types before spelt facts =
    let d = sequence_named m (Some name) ns types in
    with_sequence_valid m d before
    (named m (with_sequence d m) name (SequenceVar ns types) before spelt facts
    (inserted_left name _ _ _ (inserted_left name _ _ _ (inserted_right name _ _ _ (named_inserted (λ d. d.name) m.sequences d name refl)))))
    (sequence_made m name ns types facts) facts.room

-- an unnamed one adds no name
pub list_valid : (m : Data) (ns : List (List ℕ)) → IsValid m → list_any (is_of_other_sort m Interval) ns ≡ false → are_distinct (itvs_of m ns) ≡ true → nat_le (length ns) 500 ≡ true
    → is_within_limits (with_sequence (sequence_named m None ns None) m) ≡ true → IsValid (with_sequence (sequence_named m None ns None) m)
list_valid m ns before uses once few limits =
    let d = sequence_named m None ns None in
    with_sequence_valid m d before
    (ap (λ ss. are_names (map (λ d. d.name) m.intervals ++ map (λ d. d.name) m.matrices ++ ss ++ filter_map (λ d. d.name) m.cumuls ++ map (λ d. d.name) m.states)) (unnamed_same (λ d. d.name) m.sequences d refl) ∙ before.names)
    (listed_made m None ns uses once few) limits

-- matrices

not_above : (n limit : ℕ) → nat_lt limit n ≡ false → nat_le n limit ≡ true
not_above n limit h = grind (arith, nat_tests)

equal : (j k : ℕ) → j ≡ k → nat_eq j k ≡ true
equal j k h = grind (arith, nat_tests, h)

define_matrix : (m : Data) (name : List ℕ) (rows : List (List Int)) → IsValid m → is_spelt name ≡ true → Facts m (Define name (TransitionMatrix rows)) → IsValid (with_matrix (matrix_named name rows) m)
define_matrix m name rows before spelt facts =
    let d = matrix_named name rows in
    let rest = kept m (with_matrix d m) (extends_matrix d m) before in
    let square = and_parts (nat_le 1 (length rows)) (list_all (λ row. nat_eq (length row) (length rows)) rows) (not_true _ facts.fitting) in
    record {
      names = named m (with_matrix d m) name (TransitionMatrix rows) before spelt facts
          (inserted_left name _ _ _ (inserted_left name _ _ _ (inserted_left name _ _ _ (inserted_right name _ _ _ (map_inserted (λ d. d.name) m.matrices d)))));
      intervals = before.intervals;
      matrices = all_push is_matrix_def m.matrices d before.matrices
          (all_four (nat_le 1 (length rows)) (nat_le (length rows) 200) (nat_eq (length (flat_map (map int_of) rows)) (length rows * length rows)) (list_all is_amount (flat_map (map int_of) rows))
          square.0 (not_above (length rows) 200 facts.rows) (equal _ _ (cell_number (length rows) rows square.1)) (cells_small rows facts.signs facts.small));
      sequences = rest.sequences;
      cumuls = rest.cumuls;
      states = rest.states;
      constraints = rest.constraints;
      objective = rest.objective;
      criteria = rest.criteria;
      limits = facts.room;
    }

-- state functions

state_made : (m : Data) (name : List ℕ) (x : Option (List ℕ)) → Facts m (Define name (StateFunction x)) → is_state_def m (state_named m name x) ≡ true
state_made m name None facts = refl
state_made m name (Some x) facts = right_mat m x facts.uses

define_state : (m : Data) (name : List ℕ) (x : Option (List ℕ)) → IsValid m → is_spelt name ≡ true → Facts m (Define name (StateFunction x)) → IsValid (with_state (state_named m name x) m)
define_state m name x before spelt facts =
    let d = state_named m name x in
    let rest = kept m (with_state d m) (extends_state d m) before in
    record {
      names = named m (with_state d m) name (StateFunction x) before spelt facts (inserted_right name _ _ _ (map_inserted (λ d. d.name) m.states d));
      intervals = before.intervals;
      matrices = before.matrices;
      sequences = rest.sequences;
      cumuls = rest.cumuls;
      states = all_push (is_state_def m) m.states d before.states (state_made m name x facts);
      constraints = rest.constraints;
      objective = rest.objective;
      criteria = rest.criteria;
      limits = facts.room;
    }

-- cumulative functions

pub with_cumul_valid : (m : Data) (d : CumulDef) → IsValid m → are_names (all_names (with_cumul d m)) ≡ true → is_cumul_def m d ≡ true → is_within_limits (with_cumul d m) ≡ true → IsValid (with_cumul d m)
with_cumul_valid m d before names here limits =
    let rest = kept m (with_cumul d m) (extends_cumul d m) before in
    record {
      names = names;
      intervals = before.intervals;
      matrices = before.matrices;
      sequences = rest.sequences;
      cumuls = all_push (is_cumul_def m) m.cumuls d before.cumuls here;
      states = rest.states;
      constraints = rest.constraints;
      objective = rest.objective;
      criteria = rest.criteria;
      limits = limits;
    }

define_cumul : (m : Data) (name : List ℕ) (c : Cumul) → IsValid m → is_spelt name ≡ true → Facts m (Define name (Cumulative c)) → IsValid (with_cumul (cumul_named m (Some name) c) m)
define_cumul m name c before spelt facts =
    let d = cumul_named m (Some name) c in
    with_cumul_valid m d before
    (named m (with_cumul d m) name (Cumulative c) before spelt facts (inserted_left name _ _ _ (inserted_right name _ _ _ (named_inserted (λ d. d.name) m.cumuls d name refl))))
    (parts_well_made m c before.cumuls facts.uses facts.ordered facts.inside facts.signs facts.small) facts.room

-- an unnamed one adds no name
pub unnamed_valid : (m : Data) (c : Cumul) → IsValid m → is_cumul_def m (cumul_named m None c) ≡ true → is_within_limits (with_cumul (cumul_named m None c) m) ≡ true → IsValid (with_cumul (cumul_named m None c) m)
unnamed_valid m c before here limits =
    let d = cumul_named m None c in
    with_cumul_valid m d before
    (ap (λ cs. are_names (map (λ d. d.name) m.intervals ++ map (λ d. d.name) m.matrices ++ filter_map (λ d. d.name) m.sequences ++ cs ++ map (λ d. d.name) m.states)) (unnamed_same (λ d. d.name) m.cumuls d refl) ∙ before.names)
    here limits

pub define_valid : (m : Data) (name : List ℕ) (d : Definition) → IsValid m → is_spelt name ≡ true → Facts m (Define name d) → IsValid (defined m name d)
define_valid m name (IntervalVar args) before spelt facts = define_interval m name args before spelt facts
define_valid m name (SequenceVar ns types) before spelt facts = define_sequence m name ns types before spelt facts
define_valid m name (TransitionMatrix rows) before spelt facts = define_matrix m name rows before spelt facts
define_valid m name (StateFunction x) before spelt facts = define_state m name x before spelt facts
define_valid m name (StepFunction ps) before spelt facts = before
define_valid m name (Cumulative c) before spelt facts = define_cumul m name c before spelt facts
