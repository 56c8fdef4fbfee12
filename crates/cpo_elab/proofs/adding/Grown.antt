-- A draft with one more thing.
use Rattle.std.proofs.Common.{◌≡◌, ℕ, ◌+◌, ◌-◌, ◌≤◌, Bool, true, false, ◌&&◌, nat_le, nat_eq, List, [], ◌∷◌, ◌++◌, length, sum_by, Option, Some, None, sym, ap, subst, ◌∙◌, arith}
use Rattle.std.specs.List.{list_all}
use Rattle.std.specs.Str.{bytes_eq}
use Rattle.std.proofs.lemmas.Bool.Decides.{nat_tests}
use Rattle.sched_model.specs.Words.{passes_if_any}
use Rattle.std.specs.Map.{lookup}
use Rattle.std.specs.Option.{option_to_list}
use Rattle.std.proofs.lemmas.List.{length-map}
use Rattle.std.proofs.lemmas.Bool.{and_parts}
use Rattle.base_laws.specs.laws.Places.{none_if_not}
use Rattle.sched_model.specs.declared.types.IntervalDef.{IntervalDef}
use Rattle.sched_model.specs.declared.types.MatrixDef.{MatrixDef}
use Rattle.sched_model.specs.declared.types.SequenceDef.{SequenceDef}
use Rattle.sched_model.specs.declared.types.CumulDef.{CumulDef}
use Rattle.sched_model.specs.declared.types.StateDef.{StateDef}
use Rattle.sched_model.specs.declared.types.Constraint.{Constraint}
use Rattle.sched_model.specs.declared.types.Objective.{Objective}
use Rattle.sched_model.specs.Data.{Data, with_interval, with_matrix, with_sequence, with_cumul, with_state, with_constraint, with_objective}
use Rattle.sched_model.specs.Rank.{criteria_of}
use Rattle.sched_model.specs.Valid.{IsValid, is_sequence_def, are_parts, pair_count, nodes_of, node_count, node_total}
use Rattle.sched_model.specs.laws.Limits.{limits_of}
use Rattle.cpo_elab.specs.declared.names.Sort.TheVariants.{Interval, Matrix, Sequence, Cumulated, State}
use Rattle.cpo_elab.specs.Named.{number_of, is_defined}
use Rattle.cpo_elab.specs.code.Drafts.{IsDraft, capped}
use Rattle.cpo_elab.proofs.named.Meanings.{defined_by_name}
use Rattle.cpo_elab.proofs.adding.Rooms.{cells_interval, cells_sequence, nodes_cumul, nodes_constraint}
use Rattle.cpo_elab.proofs.named.Entries.{Table, Tells, tells_more, tells_same, listed_names, unnamed_names, new_names, interval_names, matrix_names, state_names, sequence_names, cumul_names}

pub absent_key : (table : Table) (m m' : Data) (k n : List ℕ) → Tells table m → m ≡ m' → k ≡ n → is_defined m' n ≡ false → lookup (bytes_eq k) table ≡ None
absent_key table m m' k n tells same is fresh =
    none_if_not (lookup (bytes_eq k) table) (defined_by_name m table k tells ∙ (λ i. is_defined (same i) (is i)) ∙ fresh)

-- the room that is there, and what one more thing takes of it
pub enough : (room total n : ℕ) → room + total ≡ 100000 → total + n ≤ 100000 → n ≤ room
enough room total n sums fits = omega (arith, sums, fits)

left_room : (room total total' n : ℕ) → room + total ≡ 100000 → total' ≡ total + n → total' ≤ 100000 → (room - n) + total' ≡ 100000
left_room room total total' n sums more fits = omega (arith, sums, more, fits)

exact : (count n : ℕ) → count ≡ capped n → n ≤ 100000 → count ≡ n
unfolding capped
exact count n is few = omega (arith, is, few)

pub grown_interval : (table table' : Table) (cells room : ℕ) (m m' : Data) (d : IntervalDef) (k : List ℕ) (id : ℕ) → IsDraft table cells room m → lookup (bytes_eq k) table ≡ None → k ≡ d.name
    → table' ≡ table ++ (k, record { sort = Interval; id = id }) ∷ [] → id ≡ length m.intervals → m' ≡ with_interval d m → IsValid (with_interval d m) → IsDraft table' (cells + 5) room m'
grown_interval table table' cells room m m' d k id old absent is pushed id_is after valid = subst (IsDraft table' (cells + 5) room) (sym after) (record {
  names = tells_more table table' m (with_interval d m) Interval k id old.names absent pushed (id_is ∙ sym (length-map m.intervals (λ (x : IntervalDef). Some x.name))) (subst (new_names m (with_interval d m) Interval) (sym is) (interval_names m d));
  cell_sum = omega (arith, old.cell_sum, cells_interval m d);
  room_sum = old.room_sum;
  valid = valid;
})

pub grown_matrix : (table table' : Table) (cells room : ℕ) (m m' : Data) (d : MatrixDef) (k : List ℕ) (id : ℕ) → IsDraft table cells room m → lookup (bytes_eq k) table ≡ None → k ≡ d.name
    → table' ≡ table ++ (k, record { sort = Matrix; id = id }) ∷ [] → id ≡ length m.matrices → m' ≡ with_matrix d m → IsValid (with_matrix d m) → IsDraft table' cells room m'
grown_matrix table table' cells room m m' d k id old absent is pushed id_is after valid = subst (IsDraft table' cells room) (sym after) (record {
  names = tells_more table table' m (with_matrix d m) Matrix k id old.names absent pushed (id_is ∙ sym (length-map m.matrices (λ (x : MatrixDef). Some x.name))) (subst (new_names m (with_matrix d m) Matrix) (sym is) (matrix_names m d));
  cell_sum = old.cell_sum;
  room_sum = old.room_sum;
  valid = valid;
})

pub grown_state : (table table' : Table) (cells room : ℕ) (m m' : Data) (d : StateDef) (k : List ℕ) (id : ℕ) → IsDraft table cells room m → lookup (bytes_eq k) table ≡ None → k ≡ d.name
    → table' ≡ table ++ (k, record { sort = State; id = id }) ∷ [] → id ≡ length m.states → m' ≡ with_state d m → IsValid (with_state d m) → IsDraft table' cells room m'
grown_state table table' cells room m m' d k id old absent is pushed id_is after valid = subst (IsDraft table' cells room) (sym after) (record {
  names = tells_more table table' m (with_state d m) State k id old.names absent pushed (id_is ∙ sym (length-map m.states (λ (x : StateDef). Some x.name))) (subst (new_names m (with_state d m) State) (sym is) (state_names m d));
  cell_sum = old.cell_sum;
  room_sum = old.room_sum;
  valid = valid;
})

pub grown_sequence : (table table' : Table) (cells room pairs : ℕ) (m m' : Data) (d : SequenceDef) (k : List ℕ) (id : ℕ) → IsDraft table cells room m → lookup (bytes_eq k) table ≡ None → d.name ≡ Some k
    → table' ≡ table ++ (k, record { sort = Sequence; id = id }) ∷ [] → id ≡ length m.sequences → m' ≡ with_sequence d m → IsValid (with_sequence d m) → pairs ≡ pair_count (length d.members) → IsDraft table' (cells + pairs) room m'
grown_sequence table table' cells room pairs m m' d k id old absent is pushed id_is after valid counted = subst (IsDraft table' (cells + pairs) room) (sym after) (record {
  names = tells_more table table' m (with_sequence d m) Sequence k id old.names absent pushed (id_is ∙ sym (length-map m.sequences (λ (x : SequenceDef). x.name))) (sequence_names m d k is);
  cell_sum = omega (arith, old.cell_sum, counted, cells_sequence m d);
  room_sum = old.room_sum;
  valid = valid;
})

pub grown_listed : (table : Table) (cells room pairs : ℕ) (m m' : Data) (d : SequenceDef) → IsDraft table cells room m → d.name ≡ None
    → m' ≡ with_sequence d m → IsValid (with_sequence d m) → pairs ≡ pair_count (length d.members) → IsDraft table (cells + pairs) room m'
grown_listed table cells room pairs m m' d old none after valid counted = subst (IsDraft table (cells + pairs) room) (sym after) (record {
  names = tells_same table m (with_sequence d m) old.names (listed_names m d none);
  cell_sum = omega (arith, old.cell_sum, counted, cells_sequence m d);
  room_sum = old.room_sum;
  valid = valid;
})

pub grown_cumul : (table table' : Table) (cells room parts : ℕ) (m m' : Data) (d : CumulDef) (k : List ℕ) (id : ℕ) → IsDraft table cells room m → lookup (bytes_eq k) table ≡ None → d.name ≡ Some k
    → table' ≡ table ++ (k, record { sort = Cumulated; id = id }) ∷ [] → id ≡ length m.cumuls → m' ≡ with_cumul d m → IsValid (with_cumul d m) → parts ≡ length d.parts → IsDraft table' cells (room - parts) m'
grown_cumul table table' cells room parts m m' d k id old absent is pushed id_is after valid counted = subst (IsDraft table' cells (room - parts)) (sym after) (record {
  names = tells_more table table' m (with_cumul d m) Cumulated k id old.names absent pushed (id_is ∙ sym (length-map m.cumuls (λ (x : CumulDef). x.name))) (cumul_names m d k is);
  cell_sum = old.cell_sum;
  room_sum = left_room room (node_total m) (node_total (with_cumul d m)) parts old.room_sum (nodes_cumul m d ∙ ap (λ n. node_total m + n) (sym counted)) (limits_of (with_cumul d m) valid.limits).nodes;
  valid = valid;
})

pub grown_unnamed : (table : Table) (cells room parts : ℕ) (m m' : Data) (d : CumulDef) → IsDraft table cells room m → d.name ≡ None
    → m' ≡ with_cumul d m → IsValid (with_cumul d m) → parts ≡ length d.parts → IsDraft table cells (room - parts) m'
grown_unnamed table cells room parts m m' d old none after valid counted = subst (IsDraft table cells (room - parts)) (sym after) (record {
  names = tells_same table m (with_cumul d m) old.names (unnamed_names m d none);
  cell_sum = old.cell_sum;
  room_sum = left_room room (node_total m) (node_total (with_cumul d m)) parts old.room_sum (nodes_cumul m d ∙ ap (λ n. node_total m + n) (sym counted)) (limits_of (with_cumul d m) valid.limits).nodes;
  valid = valid;
})

few_nodes : (m : Data) (c : Constraint) → IsValid (with_constraint c m) → nodes_of c ≤ 100000
few_nodes m c valid = let l = limits_of (with_constraint c m) valid.limits in omega (arith, l.nodes, nodes_constraint m c)

pub grown_constraint : (table : Table) (cells room count : ℕ) (m m' : Data) (c : Constraint) → IsDraft table cells room m → m' ≡ with_constraint c m → IsValid (with_constraint c m)
    → count ≡ capped (nodes_of c) → IsDraft table cells (room - count) m'
unfolding number_of
grown_constraint table cells room count m m' c old after valid counted = subst (IsDraft table cells (room - count)) (sym after) (record {
  names = old.names;
  cell_sum = old.cell_sum;
  room_sum = left_room room (node_total m) (node_total (with_constraint c m)) count old.room_sum
      (nodes_constraint m c ∙ ap (λ n. node_total m + n) (sym (exact count (nodes_of c) counted (few_nodes m c valid)))) (limits_of (with_constraint c m) valid.limits).nodes;
  valid = valid;
})

pub room_for_constraint : (room count : ℕ) (m : Data) (c : Constraint) → room + node_total m ≡ 100000 → IsValid (with_constraint c m) → count ≡ capped (nodes_of c) → count ≤ room
room_for_constraint room count m c sums valid counted =
    let l = limits_of (with_constraint c m) valid.limits in let is = exact count (nodes_of c) counted (few_nodes m c valid) in omega (arith, is, sums, l.nodes, nodes_constraint m c)

pub room_for_parts : (room count : ℕ) (m : Data) (d : CumulDef) → room + node_total m ≡ 100000 → IsValid (with_cumul d m) → count ≡ length d.parts → count ≤ room
room_for_parts room count m d sums valid counted =
    let l = limits_of (with_cumul d m) valid.limits in omega (arith, counted, sums, l.nodes, nodes_cumul m d)

nodes_objective : (m : Data) (o : Objective) → m.objective ≡ None → node_total (with_objective o m) ≡ node_total m + sum_by node_count (criteria_of o)
nodes_objective m o none = let none_yet = ap (λ (p : Option Objective). sum_by (λ (q : Objective). sum_by node_count (criteria_of q)) (option_to_list p)) none in omega (arith, none_yet)

few_objective : (m : Data) (o : Objective) → m.objective ≡ None → IsValid (with_objective o m) → sum_by node_count (criteria_of o) ≤ 100000
few_objective m o none valid = let l = limits_of (with_objective o m) valid.limits in omega (arith, l.nodes, nodes_objective m o none)

pub grown_objective : (table : Table) (cells room count : ℕ) (m m' : Data) (o : Objective) → IsDraft table cells room m → m.objective ≡ None → m' ≡ with_objective o m → IsValid (with_objective o m)
    → count ≡ capped (sum_by node_count (criteria_of o)) → IsDraft table cells (room - count) m'
unfolding number_of
grown_objective table cells room count m m' o old none after valid counted = subst (IsDraft table cells (room - count)) (sym after) (record {
  names = old.names;
  cell_sum = old.cell_sum;
  room_sum = left_room room (node_total m) (node_total (with_objective o m)) count old.room_sum
      (nodes_objective m o none ∙ ap (λ n. node_total m + n) (sym (exact count (sum_by node_count (criteria_of o)) counted (few_objective m o none valid)))) (limits_of (with_objective o m) valid.limits).nodes;
  valid = valid;
})

pub room_for_objective : (room count : ℕ) (m : Data) (o : Objective) → room + node_total m ≡ 100000 → m.objective ≡ None → IsValid (with_objective o m) → count ≡ capped (sum_by node_count (criteria_of o)) → count ≤ room
room_for_objective room count m o sums none valid counted =
    let l = limits_of (with_objective o m) valid.limits in let is = exact count (sum_by node_count (criteria_of o)) counted (few_objective m o none valid) in omega (arith, is, sums, l.nodes, nodes_objective m o none)

-- the last of the members that are valid

last_of : {X : Type 0} (p : X → Bool) (xs : List X) (x : X) → list_all p (xs ++ x ∷ []) ≡ true → p x ≡ true
last_of p [] x h = (and_parts (p x) true h).0
last_of p (y ∷ ys) x h = last_of p ys x (and_parts (p y) (list_all p (ys ++ x ∷ [])) h).1

few_of : (n : ℕ) → nat_le n 500 ≡ true → n ≤ 500
few_of n h = grind (arith, nat_tests)

pub few_members : (m : Data) (d : SequenceDef) (n : ℕ) → IsValid (with_sequence d m) → n ≡ length d.members → n ≤ 500
few_members m d n valid is =
    let here = last_of (is_sequence_def (with_sequence d m)) m.sequences d valid.sequences in
    let parts = and_parts (are_parts (with_sequence d m) d.members && nat_le (length d.members) 500) (passes_if_any (λ ts. nat_eq (length ts) (length d.members) && list_all (λ t. nat_le t 1000000) ts) d.types) here in
    let few = few_of (length d.members) (and_parts (are_parts (with_sequence d m) d.members) (nat_le (length d.members) 500) parts.0).1 in
    omega (arith, is, few)
