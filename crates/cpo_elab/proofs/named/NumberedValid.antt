-- A valid model stays valid when its named sequences and functions come first.
use Rattle.std.proofs.Common.{◌≡◌, ◌+◌, ◌*◌, not, ◌&&◌, List, [], ◌∷◌, ◌++◌, map, length, sum_by, Some, None, nat_le, nat_lt, int_le, unwrap_or, is_some, refl, sym, ap, ◌∙◌}
use Rattle.std.specs.List.{list_all}
use Rattle.std.specs.Option.{option_to_list}
use Rattle.std.proofs.lemmas.List.{length-map}
use Rattle.std.proofs.lemmas.List.Sums.{sum_by-cons}
use Rattle.std.proofs.lemmas.Option.{unwrap_or-slice_get}
use Rattle.base_laws.specs.laws.Places.{within}
use Rattle.sched_base.specs.declared.ids.Itv.{Itv}
use Rattle.sched_base.specs.declared.ids.Seq.{Seq}
use Rattle.sched_base.specs.declared.ids.Cum.{Cum}
use Rattle.sched_model.specs.declared.types.SequenceDef.{SequenceDef}
use Rattle.sched_model.specs.declared.types.CumulDef.{CumulDef}
use Rattle.sched_model.specs.declared.types.Constraint.{Constraint}
use Rattle.sched_model.specs.declared.types.Constraint.TheVariants.{Temporal, Logic, Span, Alternative, Synchronize, NoOverlap, First, Last, Before, Prev, CumulIn, AlwaysEqual, AlwaysNoState}
use Rattle.sched_model.specs.Words.{passes, passes_if_any}
use Rattle.sched_model.specs.Data.{Data, same, has, sequence_of, parts_of, matrix_of}
use Rattle.sched_model.specs.Rank.{criteria_of}
use Rattle.cpo_elab.proofs.adding.Ranked.{criteria_stay}
use Rattle.sched_model.specs.Valid.{IsValid, is_within_limits, is_constraint, is_seq, is_mat, is_member, is_window, is_small, is_sequence_def, is_cumul_def, all_names, are_names, cell_count, node_total, nodes_of, node_count, pair_count}
use Rattle.cpo_elab.specs.NamedFirst.{is_named_sequence, is_named_cumul, parted, sequence_place, cumul_place, new_seq, new_cum, renumbered, named_first}
use Rattle.cpo_elab.proofs.adding.Parted.{sum_parted, length_parted, names_parted}
use Rattle.cpo_elab.specs.lemmas.Parted.{at_new_place, all_parted}

pub sequence_stays : (m : Data) (p : Seq) → sequence_of (named_first m) (new_seq (sequence_place m) p) ≡ sequence_of m p
sequence_stays m p =
    let none : SequenceDef = record { name = None; members = []; types = None } in
    sym (unwrap_or-slice_get (parted is_named_sequence m.sequences) (new_seq (sequence_place m) p).0 none)
    ∙ ap (λ o. unwrap_or o none) (at_new_place is_named_sequence m.sequences p.0)
    ∙ unwrap_or-slice_get m.sequences p.0 none

pub parts_stay : (m : Data) (f : Cum) → parts_of (named_first m) (new_cum (cumul_place m) f) ≡ parts_of m f
parts_stay m f =
    let none : CumulDef = record { name = None; parts = [] } in
    sym (ap (λ d. d.parts) (unwrap_or-slice_get (parted is_named_cumul m.cumuls) (new_cum (cumul_place m) f).0 none))
    ∙ ap (λ o. (unwrap_or o none).parts) (at_new_place is_named_cumul m.cumuls f.0)
    ∙ ap (λ d. d.parts) (unwrap_or-slice_get m.cumuls f.0 none)

seq_stays : (m : Data) (p : Seq) → is_seq (named_first m) (new_seq (sequence_place m) p) ≡ is_seq m p
seq_stays m p =
    within (parted is_named_sequence m.sequences) (new_seq (sequence_place m) p).0
    ∙ ap is_some (at_new_place is_named_sequence m.sequences p.0)
    ∙ sym (within m.sequences p.0)

cum_stays : (m : Data) (f : Cum) → nat_lt (new_cum (cumul_place m) f).0 (length (named_first m).cumuls) ≡ nat_lt f.0 (length m.cumuls)
cum_stays m f =
    within (parted is_named_cumul m.cumuls) (new_cum (cumul_place m) f).0
    ∙ ap is_some (at_new_place is_named_cumul m.cumuls f.0)
    ∙ sym (within m.cumuls f.0)

member_stays : (m : Data) (p : Seq) (x : Itv) → is_member (named_first m) (new_seq (sequence_place m) p) x ≡ is_member m p x
member_stays m p x = λ i. seq_stays m p i && has (sequence_stays m p i).members x

constraint_stays : (m : Data) (c : Constraint) → is_constraint (named_first m) (renumbered (sequence_place m) (cumul_place m) c) ≡ is_constraint m c
constraint_stays m (Temporal from to equal a b z) = refl
constraint_stays m (Logic x) = refl
constraint_stays m (Span a parts) = refl
constraint_stays m (Alternative a parts n) = refl
constraint_stays m (Synchronize a parts) = refl
constraint_stays m (NoOverlap p matrix direct) =
    λ i. seq_stays m p i && passes_if_any (λ x. is_mat m x && passes (λ ts. passes (λ d. list_all (λ t. nat_lt t d.size) ts) (matrix_of m (Some x))) (sequence_stays m p i).types) matrix
constraint_stays m (First p a) = member_stays m p a
constraint_stays m (Last p a) = member_stays m p a
constraint_stays m (Before p a b) = λ i. member_stays m p a i && member_stays m p b i && not (same a b)
constraint_stays m (Prev p a b) = λ i. member_stays m p a i && member_stays m p b i && not (same a b)
constraint_stays m (CumulIn f w lo hi) = λ i. cum_stays m f i && is_window m w && is_small lo && is_small hi && int_le lo hi
constraint_stays m (AlwaysEqual g a v start end) = refl
constraint_stays m (AlwaysNoState g a) = refl

constraints_stay : (m : Data) (cs : List Constraint) → list_all (is_constraint (named_first m)) (map (renumbered (sequence_place m) (cumul_place m)) cs) ≡ list_all (is_constraint m) cs
constraints_stay m [] = refl
constraints_stay m (c ∷ cs) = λ i. constraint_stays m c i && constraints_stay m cs i

nodes_stay : (m : Data) (c : Constraint) → nodes_of (renumbered (sequence_place m) (cumul_place m) c) ≡ nodes_of c
nodes_stay m (Temporal from to equal a b z) = refl
nodes_stay m (Logic x) = refl
nodes_stay m (Span a parts) = refl
nodes_stay m (Alternative a parts n) = refl
nodes_stay m (Synchronize a parts) = refl
nodes_stay m (NoOverlap p matrix direct) = refl
nodes_stay m (First p a) = refl
nodes_stay m (Last p a) = refl
nodes_stay m (Before p a b) = refl
nodes_stay m (Prev p a b) = refl
nodes_stay m (CumulIn f w lo hi) = refl
nodes_stay m (AlwaysEqual g a v start end) = refl
nodes_stay m (AlwaysNoState g a) = refl

all_nodes_stay : (m : Data) (cs : List Constraint) → sum_by nodes_of (map (renumbered (sequence_place m) (cumul_place m)) cs) ≡ sum_by nodes_of cs
all_nodes_stay m [] = refl
all_nodes_stay m (c ∷ cs) =
    sum_by-cons nodes_of (renumbered (sequence_place m) (cumul_place m) c) (map (renumbered (sequence_place m) (cumul_place m)) cs)
    ∙ (λ i. nodes_stay m c i + all_nodes_stay m cs i)
    ∙ sym (sum_by-cons nodes_of c cs)

names_stay : (m : Data) → all_names (named_first m) ≡ all_names m
names_stay m = λ i. map (λ d. d.name) m.intervals ++ map (λ d. d.name) m.matrices ++ names_parted (λ d. d.name) m.sequences i ++ names_parted (λ d. d.name) m.cumuls i ++ map (λ d. d.name) m.states

cells_stay : (m : Data) → cell_count (named_first m) ≡ cell_count m
cells_stay m = ap (λ n. 5 * length m.intervals + n) (sum_parted (λ d. pair_count (length d.members)) is_named_sequence m.sequences)

total_stays : (m : Data) → node_total (named_first m) ≡ node_total m
total_stays m = λ i. all_nodes_stay m m.constraints i + sum_by (λ o. sum_by node_count (criteria_of o)) (option_to_list m.objective) + sum_parted (λ f. length f.parts) is_named_cumul m.cumuls i

limits_stay : (m : Data) → is_within_limits (named_first m) ≡ is_within_limits m
limits_stay m = λ i.
    nat_le (length m.intervals) 2000 && nat_le (length_parted is_named_sequence m.sequences i) 200 && nat_le (length m.matrices) 200
    && nat_le (length_parted is_named_cumul m.cumuls i) 2000 && nat_le (length m.states) 200 && nat_le (length-map m.constraints (renumbered (sequence_place m) (cumul_place m)) i) 20000
    && nat_le (cells_stay m i) 1000000 && nat_le (total_stays m i) 100000

pub stays_valid : (m : Data) → IsValid m → IsValid (named_first m)
stays_valid m before = record {
  names = ap are_names (names_stay m) ∙ before.names;
  intervals = before.intervals;
  matrices = before.matrices;
  sequences = all_parted (is_sequence_def m) is_named_sequence m.sequences before.sequences;
  cumuls = all_parted (is_cumul_def m) is_named_cumul m.cumuls before.cumuls;
  states = before.states;
  constraints = constraints_stay m m.constraints ∙ before.constraints;
  objective = before.objective;
  criteria = criteria_stay m (named_first m) (λ e. refl) m.objective before.criteria;
  limits = limits_stay m ∙ before.limits;
}
