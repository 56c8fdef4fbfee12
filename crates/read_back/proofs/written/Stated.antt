-- A constraint that deserves no number leaves the model as a text can write it.
use Rattle.std.proofs.Common.{◌≡◌, ◌^◌, ℕ, ℤ, pos, neg_ℤ, true, false, List, [], ◌∷◌, ◌++◌, length, slice_get, Option, Some, None, refl, ap, ◌∙◌, arith}
use Rattle.std.proofs.lemmas.Int.{ints}
use Rattle.std.specs.List.{list_all}
use Rattle.std.specs.Ordering.{int_eq}
use Rattle.std.proofs.lemmas.Bool.{and_from, or_parts, or_left, or_right}
use Rattle.base_laws.specs.laws.Items.{all_push}
use Rattle.sched_base.specs.declared.ids.Cum.{Cum}
use Rattle.sched_model.specs.declared.types.SequenceDef.{SequenceDef}
use Rattle.sched_model.specs.declared.types.CumulDef.{CumulDef}
use Rattle.sched_model.specs.declared.types.Constraint.{Constraint}
use Rattle.sched_model.specs.declared.types.Constraint.TheVariants as constraint
use Rattle.sched_model.specs.Words.{passes}
use Rattle.sched_model.specs.Data.{Data, with_sequence, with_cumul, with_constraint}
use Rattle.sched_model.specs.Valid.{IsValid}
use Rattle.cpo_text.specs.declared.tree.Int.{Int}
use Rattle.cpo_text.specs.declared.cumul.Cumul.{Cumul}
use Rattle.cpo_text.specs.declared.tree.Hierarchy.{Hierarchy}
use Rattle.cpo_text.specs.declared.tree.Hierarchy.TheVariants.{Span, Synchronize}
use Rattle.cpo_text.specs.declared.tree.Over.{Over}
use Rattle.cpo_text.specs.declared.tree.Over.TheVariants as over
use Rattle.cpo_text.specs.declared.tree.Spaced.{Spaced}
use Rattle.cpo_text.specs.declared.tree.Extreme.{Extreme as Place}
use Rattle.cpo_text.specs.declared.tree.Extreme.TheVariants.{First, Last}
use Rattle.cpo_text.specs.declared.tree.Order.{Order}
use Rattle.cpo_text.specs.declared.tree.Order.TheVariants.{Before, Prev}
use Rattle.cpo_text.specs.declared.tree.Bound.{Bound}
use Rattle.cpo_text.specs.declared.tree.Bound.TheVariants.{AtMost, AtLeast}
use Rattle.cpo_text.specs.declared.tree.Moments.{Moments}
use Rattle.cpo_text.specs.declared.tree.Moments.TheVariants as moments
use Rattle.cpo_text.specs.declared.tree.Constrained.{Constrained}
use Rattle.cpo_text.specs.declared.tree.Constrained.TheVariants.{Between, Parts, Alternative, NoOverlap, Extreme, Ordered, Bounded, AlwaysIn, AlwaysEqual, AlwaysNoState, Holds}
use Rattle.cpo_text.specs.declared.tree.Statement.TheVariants.{Constrain}
use Rattle.cpo_elab.specs.declared.names.Sort.TheVariants.{Sequence}
use Rattle.cpo_elab.specs.Named.{itv_of, itvs_of, seq_of, cum_of, some_in_cumul}
use Rattle.cpo_elab.specs.Literals.{int_of}
use Rattle.cpo_elab.specs.Elaborated.{sequence_named, cumul_named, hierarchy_of, extreme_of, order_of, bound_of, window_of, named_itself, cumul_id, constraint_of, with_unnamed, with_listed, with_written}
use Rattle.cpo_elab.specs.Factors.{factor_of}
use Rattle.cpo_elab.specs.Judged.{is_crowded, is_of_other_sort}
use Rattle.cpo_elab.specs.NamedFirst.{is_named_sequence, is_named_cumul}
use Rattle.cpo_elab.specs.lemmas.Names.{lone_right}
use Rattle.read_back.specs.Written.{is_written, sequences_in, cumuls_in}
use Rattle.read_back.proofs.written.Places.{ranks, counted_passing, counted_other}
use Rattle.read_back.proofs.written.Names.{sequence_is_named, cumul_is_named}
use Rattle.read_back.proofs.written.Fine.{Fine, is_fine_sequence, is_fine_cumul, sequence_ids, cumul_ids, written_grows, all_grow, passing_stays, seqs_within, cums_within, ids_push}
use Rattle.read_back.proofs.written.Clear.{Told, Clear}
use Rattle.read_back.proofs.written.Defined.{parts_some, expr_written}

-- one constraint more

abbrev AllNamed : Data → Constraint → Type 0
AllNamed m k = (list_all (λ i. passes is_named_sequence (slice_get m.sequences i)) (sequences_in k) ≡ true) × (list_all (λ i. passes is_named_cumul (slice_get m.cumuls i)) (cumuls_in k) ≡ true)

pub constraint_more : (m : Data) (k : Constraint) → Fine m → is_written m k ≡ true → AllNamed m k → Fine (with_constraint k m)
constraint_more m k before here named =
    let n = with_constraint k m in
    record {
      intervals = before.intervals;
      matrices = before.matrices;
      sequences = before.sequences;
      cumuls = before.cumuls;
      states = before.states;
      constraints = all_push (is_written n) m.constraints k (all_grow m n (λ p h. h) m.constraints before.constraints) (written_grows m n (λ p h. h) k here);
      objective = before.objective;
      listed = ap (ranks is_named_sequence m.sequences) (ids_push sequences_in m.constraints k) ∙ counted_passing is_named_sequence m.sequences (sequence_ids m.constraints) (sequences_in k) named.0 before.listed;
      unnamed = ap (ranks is_named_cumul m.cumuls) (ids_push cumuls_in m.constraints k) ∙ counted_passing is_named_cumul m.cumuls (cumul_ids m.constraints) (cumuls_in k) named.1 before.unnamed;
    }

-- with the sequence that it lists
listed_more : (m : Data) (d : SequenceDef) (k : Constraint) → IsValid m → Fine m → is_named_sequence d ≡ false → is_fine_sequence d ≡ true
    → is_written m k ≡ true → sequences_in k ≡ length m.sequences ∷ [] → cumuls_in k ≡ [] → Fine (with_constraint k (with_sequence d m))
listed_more m d k valid before unnamed fine here listed none =
    let n = with_constraint k (with_sequence d m) in
    record {
      intervals = before.intervals;
      matrices = before.matrices;
      sequences = all_push is_fine_sequence m.sequences d before.sequences fine;
      cumuls = before.cumuls;
      states = before.states;
      constraints = all_push (is_written n) m.constraints k (all_grow m n (λ p h. passing_stays is_named_sequence m.sequences (d ∷ []) p.0 h) m.constraints before.constraints)
          (written_grows m n (λ p h. passing_stays is_named_sequence m.sequences (d ∷ []) p.0 h) k here);
      objective = before.objective;
      listed = ap (ranks is_named_sequence (m.sequences ++ d ∷ [])) (ids_push sequences_in m.constraints k ∙ ap (λ is. sequence_ids m.constraints ++ is) listed)
          ∙ counted_other is_named_sequence m.sequences d (sequence_ids m.constraints) unnamed (seqs_within m valid) before.listed;
      unnamed = ap (ranks is_named_cumul m.cumuls) (ids_push cumuls_in m.constraints k)
          ∙ counted_passing is_named_cumul m.cumuls (cumul_ids m.constraints) (cumuls_in k) (ap (list_all (λ i. passes is_named_cumul (slice_get m.cumuls i))) none) before.unnamed;
    }

-- with the function that it writes out
unnamed_more : (m : Data) (d : CumulDef) (k : Constraint) → IsValid m → Fine m → is_named_cumul d ≡ false → is_fine_cumul d ≡ true
    → is_written m k ≡ true → sequences_in k ≡ [] → cumuls_in k ≡ length m.cumuls ∷ [] → Fine (with_constraint k (with_cumul d m))
unnamed_more m d k valid before unnamed fine here none written =
    let n = with_constraint k (with_cumul d m) in
    record {
      intervals = before.intervals;
      matrices = before.matrices;
      sequences = before.sequences;
      cumuls = all_push is_fine_cumul m.cumuls d before.cumuls fine;
      states = before.states;
      constraints = all_push (is_written n) m.constraints k (all_grow m n (λ p h. h) m.constraints before.constraints) (written_grows m n (λ p h. h) k here);
      objective = before.objective;
      listed = ap (ranks is_named_sequence m.sequences) (ids_push sequences_in m.constraints k)
          ∙ counted_passing is_named_sequence m.sequences (sequence_ids m.constraints) (sequences_in k) (ap (list_all (λ i. passes is_named_sequence (slice_get m.sequences i))) none) before.listed;
      unnamed = ap (ranks is_named_cumul (m.cumuls ++ d ∷ [])) (ids_push cumuls_in m.constraints k ∙ ap (λ is. cumul_ids m.constraints ++ is) written)
          ∙ counted_other is_named_cumul m.cumuls d (cumul_ids m.constraints) unnamed (cums_within m valid) before.unnamed;
    }

-- a constraint on a function, which it names or writes out
function_fine : (m : Data) (f : Cumul) (o : Option (List ℕ)) (k : Cum → Constraint) → IsValid m → Fine m → named_itself f ≡ o → some_in_cumul (is_of_other_sort m) f ≡ false
    → ((g : Cum) → is_written m (k g) ≡ true) → ((g : Cum) → sequences_in (k g) ≡ []) → ((g : Cum) → cumuls_in (k g) ≡ g.0 ∷ []) → Fine (with_constraint (k (cumul_id m o)) (with_unnamed m f o))
function_fine m f (Some n) k valid before is uses here none one =
    constraint_more m (k (cum_of m n)) before (here (cum_of m n)) (
      ap (list_all (λ i. passes is_named_sequence (slice_get m.sequences i))) (none (cum_of m n)),
      ap (list_all (λ i. passes is_named_cumul (slice_get m.cumuls i))) (one (cum_of m n))
          ∙ and_from (passes is_named_cumul (slice_get m.cumuls (cum_of m n).0)) true (cumul_is_named m n (lone_right (is_of_other_sort m) f.more f.first n is uses)) refl,
    )
function_fine m f None k valid before is uses here none one =
    unnamed_more m (cumul_named m None f) (k (cumul_id m None)) valid before refl (parts_some m f before uses) (here (cumul_id m None)) (none (cumul_id m None)) (one (cumul_id m None))

int_same : (z : ℤ) → int_eq z z ≡ true
int_same z = grind (arith, ints)

bound_fine : (m : Data) (b : Bound) (c : Int) (g : Cum) → is_written m (bound_of b g (int_of c)) ≡ true
bound_fine m AtMost c g = or_left _ (int_eq (int_of c) (pos (2 ^ 62))) (int_same (neg_ℤ (pos (2 ^ 62))))
bound_fine m AtLeast c g = or_right (int_eq (int_of c) (neg_ℤ (pos (2 ^ 62)))) _ (int_same (pos (2 ^ 62)))

bound_sequences : (b : Bound) (c : Int) (g : Cum) → sequences_in (bound_of b g (int_of c)) ≡ []
bound_sequences AtMost c g = refl
bound_sequences AtLeast c g = refl

bound_cumuls : (b : Bound) (c : Int) (g : Cum) → cumuls_in (bound_of b g (int_of c)) ≡ g.0 ∷ []
bound_cumuls AtMost c g = refl
bound_cumuls AtLeast c g = refl

window_fine : (m n : Data) (w : Moments) (lo hi : ℤ) (g : Cum) → is_written n (constraint.CumulIn g (window_of m w) lo hi) ≡ true
window_fine m n (moments.From u v) lo hi g = refl
window_fine m n (moments.During a) lo hi g = refl

overlap_written : (m : Data) (p : Over) (s : Option Spaced) → is_written m (constraint_of m (NoOverlap p s)) ≡ true
overlap_written m p None = refl
overlap_written m p (Some s) = refl

overlap_fine : (m : Data) (p : Over) (s : Option Spaced) → IsValid m → Fine m → Clear m (Constrain (NoOverlap p s)) → Fine (with_constraint (constraint_of m (NoOverlap p s)) (with_listed m p))
overlap_fine m (over.Named p) s valid before clear =
    constraint_more m (constraint_of m (NoOverlap (over.Named p) s)) before (overlap_written m (over.Named p) s)
    (and_from (passes is_named_sequence (slice_get m.sequences (seq_of m p).0)) true (sequence_is_named m p (or_parts (is_of_other_sort m Sequence p) _ clear.uses).0) refl, refl)
overlap_fine m (over.Listed ns) s valid before clear =
    listed_more m (sequence_named m None ns None) (constraint_of m (NoOverlap (over.Listed ns) s)) valid before refl refl (overlap_written m (over.Listed ns) s) refl refl

extreme_fine : (m : Data) (e : Place) (p a : List ℕ) → Fine m → is_of_other_sort m Sequence p ≡ false → Fine (with_constraint (extreme_of e (seq_of m p) (itv_of m a)) m)
extreme_fine m First p a before right = constraint_more m (extreme_of First (seq_of m p) (itv_of m a)) before (sequence_is_named m p right) (refl, refl)
extreme_fine m Last p a before right = constraint_more m (extreme_of Last (seq_of m p) (itv_of m a)) before (sequence_is_named m p right) (refl, refl)

ordered_fine : (m : Data) (o : Order) (p a b : List ℕ) → Fine m → is_of_other_sort m Sequence p ≡ false → Fine (with_constraint (order_of o (seq_of m p) (itv_of m a) (itv_of m b)) m)
ordered_fine m Before p a b before right = constraint_more m (order_of Before (seq_of m p) (itv_of m a) (itv_of m b)) before (sequence_is_named m p right) (refl, refl)
ordered_fine m Prev p a b before right = constraint_more m (order_of Prev (seq_of m p) (itv_of m a) (itv_of m b)) before (sequence_is_named m p right) (refl, refl)

parts_fine : (m : Data) (h : Hierarchy) (a : List ℕ) (ns : List (List ℕ)) → Fine m → Fine (with_constraint (hierarchy_of h (itv_of m a) (itvs_of m ns)) m)
parts_fine m Span a ns before = constraint_more m (hierarchy_of Span (itv_of m a) (itvs_of m ns)) before refl (refl, refl)
parts_fine m Synchronize a ns before = constraint_more m (hierarchy_of Synchronize (itv_of m a) (itvs_of m ns)) before refl (refl, refl)

pub stated_fine : (m : Data) (c : Constrained) → IsValid m → Fine m → Told (Constrain c) → Clear m (Constrain c) → Fine (with_constraint (constraint_of m c) (with_written m c))
stated_fine m (Between t a b z) valid before told clear = constraint_more m (constraint_of m (Between t a b z)) before refl (refl, refl)
stated_fine m (Parts h a ns) valid before told clear = parts_fine m h a ns before
stated_fine m (Alternative a ns n) valid before told clear = constraint_more m (constraint_of m (Alternative a ns n)) before refl (refl, refl)
stated_fine m (NoOverlap p s) valid before told clear = overlap_fine m p s valid before clear
stated_fine m (Extreme e p a) valid before told clear = extreme_fine m e p a before (or_parts (is_of_other_sort m Sequence p) _ clear.uses).0
stated_fine m (Ordered o p a b) valid before told clear = ordered_fine m o p a b before (or_parts (is_of_other_sort m Sequence p) _ clear.uses).0
stated_fine m (Bounded f b c) valid before told clear =
    function_fine m f (named_itself f) (λ g. bound_of b g (int_of c)) valid before refl clear.uses (bound_fine m b c) (bound_sequences b c) (bound_cumuls b c)
stated_fine m (AlwaysIn f w lo hi) valid before told clear =
    function_fine m f (named_itself f) (λ g. constraint.CumulIn g (window_of m w) (int_of lo) (int_of hi)) valid before refl (or_parts (some_in_cumul (is_of_other_sort m) f) _ clear.uses).0
    (window_fine m m w (int_of lo) (int_of hi)) (λ g. refl) (λ g. refl)
stated_fine m (AlwaysEqual g a v aligned) valid before told clear = constraint_more m (constraint_of m (AlwaysEqual g a v aligned)) before refl (refl, refl)
stated_fine m (AlwaysNoState g a) valid before told clear = constraint_more m (constraint_of m (AlwaysNoState g a)) before refl (refl, refl)
stated_fine m (Holds e) valid before told clear = constraint_more m (constraint_of m (Holds e)) before (expr_written m e told.formed (or_parts (is_crowded (factor_of e)) false clear.sparse).0) (refl, refl)
