-- A definition or an objective that deserves no number leaves the model as a text can write it.
use Rattle.std.proofs.Common.{◌≡◌, ℕ, true, false, not, List, [], ◌∷◌, ◌++◌, map, length, nat_le, slice_index_or, Some, None, refl, ap, ◌∙◌}
use Rattle.std.specs.List.{flat_map, list_all, list_any}
use Rattle.std.proofs.lemmas.Bool.{and_parts, and_from, or_parts, not_from_false}
use Rattle.std.proofs.lemmas.List.{length-map}
use Rattle.base_laws.specs.laws.Items.{all_push}
use Rattle.sched_model.specs.declared.types.IntervalDef.{IntervalDef}
use Rattle.sched_model.specs.declared.types.MatrixDef.{MatrixDef}
use Rattle.sched_model.specs.declared.types.SequenceDef.{SequenceDef}
use Rattle.sched_model.specs.declared.types.CumulDef.{CumulDef}
use Rattle.sched_model.specs.declared.types.StateDef.{StateDef}
use Rattle.sched_model.specs.Words.{is_empty}
use Rattle.sched_model.specs.Data.{Data, with_interval, with_matrix, with_sequence, with_cumul, with_state, with_objective}
use Rattle.sched_model.specs.Valid.{IsValid}
use Rattle.sched_model.specs.Rank.{criteria_of}
use Rattle.sched_model.specs.declared.types.Expr.{Expr}
use Rattle.sched_model.specs.declared.types.Objective.{Objective}
use Rattle.cpo_text.specs.Expressions.{at_least, all_at_least, level}
use Rattle.cpo_text.specs.declared.expression.Logic.{Logic}
use Rattle.cpo_text.specs.declared.cumul.Cpart.{Cpart}
use Rattle.cpo_text.specs.declared.cumul.Cpart.TheVariants as cpart
use Rattle.cpo_text.specs.declared.cumul.Cumul.{Cumul}
use Rattle.cpo_text.specs.declared.tree.Definition.{Definition}
use Rattle.cpo_text.specs.declared.tree.Definition.TheVariants.{IntervalVar, SequenceVar, TransitionMatrix, StateFunction, StepFunction, Cumulative}
use Rattle.cpo_text.specs.declared.tree.Sense.{Sense}
use Rattle.cpo_text.specs.declared.tree.Statement.TheVariants.{Define, Aim, Rank}
use Rattle.cpo_elab.specs.Named.{some_in_cpart, some_in_cumul, cum_of}
use Rattle.cpo_elab.specs.Elaborated.{plain_interval, interval_of, sequence_named, matrix_named, state_named, turned, plain_parts, parts_signed, parts_in, cumul_named, defined, expr_of, objective_of}
use Rattle.cpo_elab.specs.Judged.{is_of_other_sort, is_crowded}
use Rattle.cpo_elab.specs.Factors.{factor_of}
use Rattle.cpo_elab.specs.NamedFirst.{is_named_sequence, is_named_cumul}
use Rattle.cpo_elab.specs.lemmas.Names.{right_cum}
use Rattle.cpo_elab.specs.lemmas.Intervals.{name_kept}
use Rattle.read_back.specs.Written.{is_written_expr, factor}
use Rattle.read_back.proofs.expr.Folds.{is_written_tree}
use Rattle.read_back.proofs.written.Places.{counted_push}
use Rattle.read_back.proofs.written.Exprs.{expr_plain, same_factor}
use Rattle.read_back.proofs.written.Names.{item_passes}
use Rattle.read_back.proofs.written.Fine.{Fine, is_kept, is_fine_sequence, is_fine_cumul, sequence_ids, cumul_ids, all_grow, passing_stays, seqs_within, cums_within, has_parts}
use Rattle.read_back.proofs.written.Clear.{Told, Clear}

-- one thing more in the model

interval_more : (m : Data) (d : IntervalDef) → Fine m → is_kept d.name ≡ true → Fine (with_interval d m)
interval_more m d before kept = record {
  intervals = all_push (λ d. is_kept d.name) m.intervals d before.intervals kept;
  matrices = before.matrices;
  sequences = before.sequences;
  cumuls = before.cumuls;
  states = before.states;
  constraints = all_grow m (with_interval d m) (λ p h. h) m.constraints before.constraints;
  objective = before.objective;
  listed = before.listed;
  unnamed = before.unnamed;
}

matrix_more : (m : Data) (d : MatrixDef) → Fine m → is_kept d.name ≡ true → Fine (with_matrix d m)
matrix_more m d before kept = record {
  intervals = before.intervals;
  matrices = all_push (λ d. is_kept d.name) m.matrices d before.matrices kept;
  sequences = before.sequences;
  cumuls = before.cumuls;
  states = before.states;
  constraints = all_grow m (with_matrix d m) (λ p h. h) m.constraints before.constraints;
  objective = before.objective;
  listed = before.listed;
  unnamed = before.unnamed;
}

state_more : (m : Data) (d : StateDef) → Fine m → is_kept d.name ≡ true → Fine (with_state d m)
state_more m d before kept = record {
  intervals = before.intervals;
  matrices = before.matrices;
  sequences = before.sequences;
  cumuls = before.cumuls;
  states = all_push (λ d. is_kept d.name) m.states d before.states kept;
  constraints = all_grow m (with_state d m) (λ p h. h) m.constraints before.constraints;
  objective = before.objective;
  listed = before.listed;
  unnamed = before.unnamed;
}

sequence_more : (m : Data) (d : SequenceDef) → IsValid m → Fine m → is_named_sequence d ≡ true → is_fine_sequence d ≡ true → Fine (with_sequence d m)
sequence_more m d valid before named fine = record {
  intervals = before.intervals;
  matrices = before.matrices;
  sequences = all_push is_fine_sequence m.sequences d before.sequences fine;
  cumuls = before.cumuls;
  states = before.states;
  constraints = all_grow m (with_sequence d m) (λ p h. passing_stays is_named_sequence m.sequences (d ∷ []) p.0 h) m.constraints before.constraints;
  objective = before.objective;
  listed = counted_push is_named_sequence m.sequences d (sequence_ids m.constraints) named (seqs_within m valid) before.listed;
  unnamed = before.unnamed;
}

cumul_more : (m : Data) (d : CumulDef) → IsValid m → Fine m → is_named_cumul d ≡ true → is_fine_cumul d ≡ true → Fine (with_cumul d m)
cumul_more m d valid before named fine = record {
  intervals = before.intervals;
  matrices = before.matrices;
  sequences = before.sequences;
  cumuls = all_push is_fine_cumul m.cumuls d before.cumuls fine;
  states = before.states;
  constraints = all_grow m (with_cumul d m) (λ p h. h) m.constraints before.constraints;
  objective = before.objective;
  listed = before.listed;
  unnamed = counted_push is_named_cumul m.cumuls d (cumul_ids m.constraints) named (cums_within m valid) before.unnamed;
}

-- the name of an interval is the one that the statement defines

-- functions have parts

some_append : {X : Type 0} (xs ys : List X) → not (is_empty xs) ≡ true → not (is_empty (xs ++ ys)) ≡ true
some_append [] ys h = cc h
some_append (x ∷ xs) ys h = refl

some_map : {X Y : Type 0} (f : X → Y) (xs : List X) → not (is_empty xs) ≡ true → not (is_empty (map f xs)) ≡ true
some_map f [] h = cc h
some_map f (x ∷ xs) h = refl

plain_some : (m : Data) (p : Cpart) → Fine m → some_in_cpart (is_of_other_sort m) p ≡ false → not (is_empty (plain_parts m p)) ≡ true
plain_some m (cpart.Named n) before uses =
    has_parts (slice_index_or m.cumuls (cum_of m n).0 (record { name = None; parts = [] })) (item_passes is_fine_cumul m.cumuls (cum_of m n).0 (record { name = None; parts = [] }) before.cumuls (right_cum m n uses))
plain_some m (cpart.Pulse u v h) before uses = refl
plain_some m (cpart.PulseOf a h) before uses = refl
plain_some m (cpart.Step u h) before uses = refl
plain_some m (cpart.StepAtStart a h) before uses = refl
plain_some m (cpart.StepAtEnd a h) before uses = refl

pub parts_some : (m : Data) (c : Cumul) → Fine m → some_in_cumul (is_of_other_sort m) c ≡ false → not (is_empty (parts_in m c)) ≡ true
parts_some m c before uses =
    some_append (parts_signed m c.first) (flat_map (parts_signed m) c.more)
    (some_map (turned c.first.minus) (plain_parts m c.first.part) (plain_some m c.first.part before (or_parts (some_in_cpart (is_of_other_sort m) c.first.part) _ uses).0))

-- definitions

pub defined_fine : (m : Data) (n : List ℕ) (d : Definition) → IsValid m → Fine m → Told (Define n d) → Clear m (Define n d) → Fine (defined m n d)
defined_fine m n (IntervalVar args) valid before told clear = interval_more m (interval_of n args) before (ap is_kept (name_kept (plain_interval n) args) ∙ told.kept)
defined_fine m n (SequenceVar ns types) valid before told clear = sequence_more m (sequence_named m (Some n) ns types) valid before refl (and_from (is_kept n) true told.kept refl)
defined_fine m n (TransitionMatrix rows) valid before told clear = matrix_more m (matrix_named n rows) before told.kept
defined_fine m n (StateFunction x) valid before told clear = state_more m (state_named m n x) before told.kept
defined_fine m n (StepFunction ps) valid before told clear = before
defined_fine m n (Cumulative c) valid before told clear =
    cumul_more m (cumul_named m (Some n) c) valid before refl (and_from (is_kept n) (not (is_empty (parts_in m c))) told.kept (parts_some m c before clear.uses))

-- expressions, and the objective

pub expr_written : (m : Data) (e : Logic) → at_least 0 (level e) ≡ true → is_crowded (factor_of e) ≡ false → is_written_expr (expr_of m e) ≡ true
expr_written m e formed sparse =
    and_from (is_written_tree (expr_of m e)) (not (is_crowded (factor (expr_of m e)))) (expr_plain m e 0 formed) (not_from_false (is_crowded (factor (expr_of m e))) (ap is_crowded (same_factor m e) ∙ sparse))

objective_more : (m : Data) (o : Objective) → Fine m → list_all is_written_expr (criteria_of o) ≡ true → Fine (with_objective o m)
objective_more m o before written = record {
  intervals = before.intervals;
  matrices = before.matrices;
  sequences = before.sequences;
  cumuls = before.cumuls;
  states = before.states;
  constraints = all_grow m (with_objective o m) (λ p h. h) m.constraints before.constraints;
  objective = written;
  listed = before.listed;
  unnamed = before.unnamed;
}

pub aimed_fine : (m : Data) (s : Sense) (e : Logic) → Fine m → Told (Aim s e) → Clear m (Aim s e) → Fine (with_objective (objective_of m s (expr_of m e ∷ [])) m)
aimed_fine m s e before told clear =
    let sparse = (or_parts (is_crowded (factor_of e)) false clear.sparse).0 in
    objective_more m (objective_of m s (expr_of m e ∷ [])) before (and_from (is_written_expr (expr_of m e)) true (expr_written m e told.formed sparse) refl)

-- of several expressions

all_written : (m : Data) (es : List Logic) → all_at_least 0 (map level es) ≡ true → list_any (λ e. is_crowded (factor_of e)) es ≡ false → list_all is_written_expr (map (expr_of m) es) ≡ true
all_written m [] formed sparse = refl
all_written m (e ∷ es) formed sparse =
    let formed_parts = and_parts (at_least 0 (level e)) (all_at_least 0 (map level es)) formed in
    let sparse_parts = or_parts (is_crowded (factor_of e)) (list_any (λ e. is_crowded (factor_of e)) es) sparse in
    and_from (is_written_expr (expr_of m e)) (list_all is_written_expr (map (expr_of m) es)) (expr_written m e formed_parts.0 sparse_parts.0) (all_written m es formed_parts.1 sparse_parts.1)

criteria_written : (m : Data) (s : Sense) (es : List Expr) → nat_le 1 (length es) ≡ true → list_all is_written_expr es ≡ true → list_all is_written_expr (criteria_of (objective_of m s es)) ≡ true
criteria_written m s [] some written = cc
criteria_written m s (e ∷ []) some written = written
criteria_written m s (e ∷ f ∷ es) some written = written

pub ranked_fine : (m : Data) (s : Sense) (es : List Logic) → Fine m → Told (Rank s es) → Clear m (Rank s es) → Fine (with_objective (objective_of m s (map (expr_of m) es)) m)
ranked_fine m s es before told clear =
    let formed = and_parts (nat_le 1 (length es)) (all_at_least 0 (map level es)) told.formed in
    objective_more m (objective_of m s (map (expr_of m) es)) before
    (criteria_written m s (map (expr_of m) es) (ap (nat_le 1) (length-map es (expr_of m)) ∙ formed.0) (all_written m es formed.1 clear.sparse))
