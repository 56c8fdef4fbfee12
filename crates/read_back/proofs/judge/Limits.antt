-- A model with the front part of each list of another keeps within its limits.
use Rattle.std.proofs.Common.{◌≡◌, ℕ, ◌+◌, ◌≤◌, true, List, [], ◌∷◌, ◌++◌, length, nat_le, Some, None, refl, ap, ◌∙◌, arith}
use Rattle.std.specs.List.{sum_by}
use Rattle.std.specs.Option.{option_to_list}
use Rattle.std.proofs.lemmas.List.{length-append, append_assoc, append-nil}
use Rattle.std.proofs.lemmas.List.Sums.{sum_by-append}
use Rattle.base_laws.specs.laws.Numbers.{is_at_most}
use Rattle.sched_model.specs.declared.types.IntervalDef.{IntervalDef}
use Rattle.sched_model.specs.declared.types.MatrixDef.{MatrixDef}
use Rattle.sched_model.specs.declared.types.SequenceDef.{SequenceDef}
use Rattle.sched_model.specs.declared.types.CumulDef.{CumulDef}
use Rattle.sched_model.specs.declared.types.StateDef.{StateDef}
use Rattle.sched_model.specs.declared.types.Constraint.{Constraint}
use Rattle.sched_model.specs.declared.types.Objective.{Objective}
use Rattle.sched_model.specs.Data.{Data}
use Rattle.sched_model.specs.Rank.{criteria_of}
use Rattle.sched_model.specs.Valid.{pair_count, nodes_of, node_count, node_total, is_within_limits}
use Rattle.sched_model.specs.laws.Limits.{limits_of, within_limits}

-- a model without an objective
abbrev pub made : List IntervalDef → List MatrixDef → List SequenceDef → List CumulDef → List StateDef → List Constraint → Data
made a b c d e f = record { intervals = a; matrices = b; sequences = c; cumuls = d; states = e; constraints = f; objective = None }

pub record Front {X : Type 0} (xs ys : List X) : Type 0 where
  pub rest : List X
  pub is : xs ++ rest ≡ ys

pub front_none : {X : Type 0} (ys : List X) → Front [] ys
front_none ys = record { rest = ys; is = refl }

pub front_all : {X : Type 0} (ys : List X) → Front ys ys
front_all ys = record { rest = []; is = append-nil ys }

pub front_to : {X : Type 0} (front back whole : List X) (x : X) → front ++ x ∷ back ≡ whole → Front (front ++ x ∷ []) whole
front_to front back whole x is = record { rest = back; is = append_assoc front (x ∷ []) back ∙ is }

front_length : {X : Type 0} (xs ys : List X) → Front xs ys → length xs ≤ length ys
front_length xs ys front = omega (arith, length-append xs front.rest, ap length front.is)

front_sum : {X : Type 0} (f : X → ℕ) (xs ys : List X) → Front xs ys → sum_by f xs ≤ sum_by f ys
front_sum f xs ys front = omega (arith, sum_by-append f xs front.rest, ap (sum_by f) front.is)

abbrev pub Fronts : Data → Data → Type 0
Fronts n m = Front n.intervals m.intervals × Front n.matrices m.matrices × Front n.sequences m.sequences × Front n.cumuls m.cumuls × Front n.states m.states × Front n.constraints m.constraints

pub made_within : (m : Data) (a : List IntervalDef) (b : List MatrixDef) (c : List SequenceDef) (d : List CumulDef) (e : List StateDef) (f : List Constraint) → is_within_limits m ≡ true
    → Fronts (made a b c d e f) m → is_within_limits (made a b c d e f) ≡ true
made_within m a b c d e f valid fronts =
    let l = limits_of m valid in
    let few_a = front_length a m.intervals fronts.0 in
    let few_b = front_length b m.matrices fronts.1 in
    let few_c = front_length c m.sequences fronts.2 in
    let few_d = front_length d m.cumuls fronts.3 in
    let few_e = front_length e m.states fronts.4 in
    let few_f = front_length f m.constraints fronts.5 in
    let pairs = front_sum (λ (d : SequenceDef). pair_count (length d.members)) c m.sequences fronts.2 in
    let parts = front_sum (λ (f : CumulDef). length f.parts) d m.cumuls fronts.3 in
    let nodes = front_sum nodes_of f m.constraints fronts.5 in
    within_limits (made a b c d e f) (record {
      intervals = omega (arith, few_a, l.intervals);
      sequences = omega (arith, few_c, l.sequences);
      matrices = omega (arith, few_b, l.matrices);
      cumuls = omega (arith, few_d, l.cumuls);
      states = omega (arith, few_e, l.states);
      constraints = omega (arith, few_f, l.constraints);
      cells = omega (arith, few_a, pairs, l.cells);
      nodes = omega (arith, nodes, parts, l.nodes);
    })

-- the objective's nodes
pub aimed_within : (m : Data) (o : Objective) (k : ℕ) → is_within_limits m ≡ true → m.objective ≡ Some o → k ≡ sum_by node_count (criteria_of o)
    → nat_le (node_total (made m.intervals m.matrices m.sequences m.cumuls m.states m.constraints) + k) 100000 ≡ true
aimed_within m o k valid is count =
    let l = limits_of m valid in
    let nodes = ap (λ p. sum_by (λ (o : Objective). sum_by node_count (criteria_of o)) (option_to_list p)) is in
    is_at_most (node_total (made m.intervals m.matrices m.sequences m.cumuls m.states m.constraints) + k) 100000 (omega (arith, nodes, count, l.nodes))
