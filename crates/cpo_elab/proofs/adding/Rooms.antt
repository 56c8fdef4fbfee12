-- Which limits one more thing passes.
use Rattle.std.proofs.Common.{◌≡◌, ℕ, ◌+◌, ◌<◌, ◌≤◌, Bool, true, false, ◌&&◌, List, [], ◌∷◌, length, nat_le, nat_lt, Option, Some, None, refl, sym, ap, ◌∙◌, arith}
use Rattle.std.proofs.lemmas.List.{length-append}
use Rattle.std.proofs.lemmas.List.Sums.{sum_by_push}
use Rattle.std.proofs.lemmas.Bool.Decides.{nat_tests}
use Rattle.std.proofs.lemmas.Bool.{and_parts, and_from}
use Rattle.base_laws.specs.laws.Numbers.{at_most, is_at_most}
use Rattle.sched_model.specs.declared.types.IntervalDef.{IntervalDef}
use Rattle.sched_model.specs.declared.types.MatrixDef.{MatrixDef}
use Rattle.sched_model.specs.declared.types.SequenceDef.{SequenceDef}
use Rattle.sched_model.specs.declared.types.CumulDef.{CumulDef}
use Rattle.sched_model.specs.declared.types.StateDef.{StateDef}
use Rattle.sched_model.specs.declared.types.Constraint.{Constraint}
use Rattle.sched_model.specs.Words.{passes_if_any}
use Rattle.sched_model.specs.Data.{Data, with_interval, with_matrix, with_sequence, with_cumul, with_state, with_constraint}
use Rattle.sched_model.specs.Valid.{pair_count, nodes_of, node_count, cell_count, node_total, is_within_limits}
use Rattle.sched_model.specs.laws.Limits.{limits_of, within_limits}
use Rattle.cpo_text.specs.declared.tree.Hierarchy.TheVariants.{Span, Synchronize}
use Rattle.cpo_text.specs.declared.tree.Extreme.TheVariants.{First, Last}
use Rattle.cpo_text.specs.declared.tree.Order.TheVariants.{Before, Prev}
use Rattle.cpo_text.specs.declared.tree.Bound.TheVariants.{AtMost, AtLeast}
use Rattle.cpo_text.specs.declared.tree.Over.TheVariants as over
use Rattle.cpo_text.specs.declared.cumul.Cumul.{Cumul}
use Rattle.cpo_text.specs.declared.expression.Logic.{Logic}
use Rattle.cpo_text.specs.declared.tree.Constrained.{Constrained}
use Rattle.cpo_text.specs.declared.tree.Constrained.TheVariants.{Between, Parts, Alternative, NoOverlap, Extreme, Ordered, Bounded, AlwaysIn, AlwaysEqual, AlwaysNoState, Holds}
use Rattle.cpo_text.specs.declared.tree.Statement.TheVariants.{Constrain}
use Rattle.cpo_elab.specs.Held.{logic_held, members_written}
use Rattle.cpo_elab.specs.Elaborated.{expr_of, constraint_of, named_itself, with_unnamed, with_written, after}
use Rattle.cpo_elab.specs.code.Drafts.{capped}
use Rattle.base_laws.specs.laws.Truth.{same_truth}

below : (n k : ℕ) → nat_lt n k ≡ true → n < k
below n k h = grind (arith, nat_tests)

is_below : (n k : ℕ) → n < k → nat_lt n k ≡ true
is_below n k h = grind (arith, nat_tests)

-- cells and nodes with one more thing

pub cells_interval : (m : Data) (d : IntervalDef) → cell_count (with_interval d m) ≡ cell_count m + 5
cells_interval m d = let more = length-append m.intervals (d ∷ []) in omega (arith, more)

pub cells_sequence : (m : Data) (d : SequenceDef) → cell_count (with_sequence d m) ≡ cell_count m + pair_count (length d.members)
cells_sequence m d = let more = sum_by_push (λ (p : SequenceDef). pair_count (length p.members)) m.sequences d in omega (arith, more)

pub nodes_cumul : (m : Data) (d : CumulDef) → node_total (with_cumul d m) ≡ node_total m + length d.parts
nodes_cumul m d = let more = sum_by_push (λ (f : CumulDef). length f.parts) m.cumuls d in omega (arith, more)

pub nodes_constraint : (m : Data) (c : Constraint) → node_total (with_constraint c m) ≡ node_total m + nodes_of c
nodes_constraint m c = let more = sum_by_push nodes_of m.constraints c in omega (arith, more)

-- one more thing of each kind

pub room_interval : (m : Data) (d : IntervalDef) → is_within_limits m ≡ true → (nat_lt (length m.intervals) 2000 && nat_le (cell_count m) 999995) ≡ is_within_limits (with_interval d m)
room_interval m d valid = same_truth (nat_lt (length m.intervals) 2000 && nat_le (cell_count m) 999995) (is_within_limits (with_interval d m)) there back where
  there : (nat_lt (length m.intervals) 2000 && nat_le (cell_count m) 999995) ≡ true → is_within_limits (with_interval d m) ≡ true
  there h =
      let p = and_parts (nat_lt (length m.intervals) 2000) (nat_le (cell_count m) 999995) h in let l = limits_of m valid in let few = below (length m.intervals) 2000 p.0 in let cells = at_most (cell_count m) 999995 p.1 in
      within_limits (with_interval d m) (record {
        intervals = omega (arith, few, length-append m.intervals (d ∷ []));
        sequences = l.sequences;
        matrices = l.matrices;
        cumuls = l.cumuls;
        states = l.states;
        constraints = l.constraints;
        cells = omega (arith, cells, cells_interval m d);
        nodes = l.nodes;
      })

  back : is_within_limits (with_interval d m) ≡ true → (nat_lt (length m.intervals) 2000 && nat_le (cell_count m) 999995) ≡ true
  back h = let l = limits_of (with_interval d m) h in
      and_from _ _ (is_below (length m.intervals) 2000 (omega (arith, l.intervals, length-append m.intervals (d ∷ [])))) (is_at_most (cell_count m) 999995 (omega (arith, l.cells, cells_interval m d)))

pub room_sequence : (m : Data) (d : SequenceDef) (n : ℕ) → is_within_limits m ≡ true → length d.members ≡ n
    → (nat_lt (length m.sequences) 200 && nat_le (cell_count m + pair_count n) 1000000) ≡ is_within_limits (with_sequence d m)
room_sequence m d n valid is = ap (λ k. nat_lt (length m.sequences) 200 && nat_le (cell_count m + pair_count k) 1000000) (sym is) ∙ same_truth (nat_lt (length m.sequences) 200 && nat_le (cell_count m + pair_count (length d.members)) 1000000) (is_within_limits (with_sequence d m)) there back where
  there : (nat_lt (length m.sequences) 200 && nat_le (cell_count m + pair_count (length d.members)) 1000000) ≡ true → is_within_limits (with_sequence d m) ≡ true
  there h =
      let p = and_parts (nat_lt (length m.sequences) 200) (nat_le (cell_count m + pair_count (length d.members)) 1000000) h in let l = limits_of m valid in let few = below (length m.sequences) 200 p.0 in let cells = at_most (cell_count m + pair_count (length d.members)) 1000000 p.1 in
      within_limits (with_sequence d m) (record {
        intervals = l.intervals;
        sequences = omega (arith, few, length-append m.sequences (d ∷ []));
        matrices = l.matrices;
        cumuls = l.cumuls;
        states = l.states;
        constraints = l.constraints;
        cells = omega (arith, cells, cells_sequence m d);
        nodes = l.nodes;
      })

  back : is_within_limits (with_sequence d m) ≡ true → (nat_lt (length m.sequences) 200 && nat_le (cell_count m + pair_count (length d.members)) 1000000) ≡ true
  back h = let l = limits_of (with_sequence d m) h in
      and_from _ _ (is_below (length m.sequences) 200 (omega (arith, l.sequences, length-append m.sequences (d ∷ []))))
      (is_at_most (cell_count m + pair_count (length d.members)) 1000000 (omega (arith, l.cells, cells_sequence m d)))

pub room_matrix : (m : Data) (d : MatrixDef) → is_within_limits m ≡ true → nat_lt (length m.matrices) 200 ≡ is_within_limits (with_matrix d m)
room_matrix m d valid = same_truth (nat_lt (length m.matrices) 200) (is_within_limits (with_matrix d m)) there back where
  there : nat_lt (length m.matrices) 200 ≡ true → is_within_limits (with_matrix d m) ≡ true
  there h = let l = limits_of m valid in let few = below (length m.matrices) 200 h in
      within_limits (with_matrix d m) (record {
        intervals = l.intervals;
        sequences = l.sequences;
        matrices = omega (arith, few, length-append m.matrices (d ∷ []));
        cumuls = l.cumuls;
        states = l.states;
        constraints = l.constraints;
        cells = l.cells;
        nodes = l.nodes;
      })

  back : is_within_limits (with_matrix d m) ≡ true → nat_lt (length m.matrices) 200 ≡ true
  back h = let l = limits_of (with_matrix d m) h in is_below (length m.matrices) 200 (omega (arith, l.matrices, length-append m.matrices (d ∷ [])))

pub room_state : (m : Data) (d : StateDef) → is_within_limits m ≡ true → nat_lt (length m.states) 200 ≡ is_within_limits (with_state d m)
room_state m d valid = same_truth (nat_lt (length m.states) 200) (is_within_limits (with_state d m)) there back where
  there : nat_lt (length m.states) 200 ≡ true → is_within_limits (with_state d m) ≡ true
  there h = let l = limits_of m valid in let few = below (length m.states) 200 h in
      within_limits (with_state d m) (record {
        intervals = l.intervals;
        sequences = l.sequences;
        matrices = l.matrices;
        cumuls = l.cumuls;
        states = omega (arith, few, length-append m.states (d ∷ []));
        constraints = l.constraints;
        cells = l.cells;
        nodes = l.nodes;
      })

  back : is_within_limits (with_state d m) ≡ true → nat_lt (length m.states) 200 ≡ true
  back h = let l = limits_of (with_state d m) h in is_below (length m.states) 200 (omega (arith, l.states, length-append m.states (d ∷ [])))

pub room_cumul : (m : Data) (d : CumulDef) → is_within_limits m ≡ true
    → (nat_lt (length m.cumuls) 2000 && nat_le (node_total m + length d.parts) 100000) ≡ is_within_limits (with_cumul d m)
room_cumul m d valid = same_truth (nat_lt (length m.cumuls) 2000 && nat_le (node_total m + length d.parts) 100000) (is_within_limits (with_cumul d m)) there back where
  there : (nat_lt (length m.cumuls) 2000 && nat_le (node_total m + length d.parts) 100000) ≡ true → is_within_limits (with_cumul d m) ≡ true
  there h =
      let p = and_parts (nat_lt (length m.cumuls) 2000) (nat_le (node_total m + length d.parts) 100000) h in let l = limits_of m valid in let few = below (length m.cumuls) 2000 p.0 in let nodes = at_most (node_total m + length d.parts) 100000 p.1 in
      within_limits (with_cumul d m) (record {
        intervals = l.intervals;
        sequences = l.sequences;
        matrices = l.matrices;
        cumuls = omega (arith, few, length-append m.cumuls (d ∷ []));
        states = l.states;
        constraints = l.constraints;
        cells = l.cells;
        nodes = omega (arith, nodes, nodes_cumul m d);
      })

  back : is_within_limits (with_cumul d m) ≡ true → (nat_lt (length m.cumuls) 2000 && nat_le (node_total m + length d.parts) 100000) ≡ true
  back h = let l = limits_of (with_cumul d m) h in
      and_from _ _ (is_below (length m.cumuls) 2000 (omega (arith, l.cumuls, length-append m.cumuls (d ∷ []))))
      (is_at_most (node_total m + length d.parts) 100000 (omega (arith, l.nodes, nodes_cumul m d)))

-- a constraint, with what it writes

constraint_there : (m : Data) (c : Constraint) → is_within_limits m ≡ true → length m.constraints < 20000 → node_total m + nodes_of c ≤ 100000 → is_within_limits (with_constraint c m) ≡ true
constraint_there m c valid few nodes = let l = limits_of m valid in
    within_limits (with_constraint c m) (record {
      intervals = l.intervals;
      sequences = l.sequences;
      matrices = l.matrices;
      cumuls = l.cumuls;
      states = l.states;
      constraints = omega (arith, few, length-append m.constraints (c ∷ []));
      cells = l.cells;
      nodes = omega (arith, nodes, nodes_constraint m c);
    })

pub constraint_back : (m : Data) (c : Constraint) → is_within_limits (with_constraint c m) ≡ true → is_within_limits m ≡ true
constraint_back m c h = let l = limits_of (with_constraint c m) h in
    within_limits m (record {
      intervals = l.intervals;
      sequences = l.sequences;
      matrices = l.matrices;
      cumuls = l.cumuls;
      states = l.states;
      constraints = omega (arith, l.constraints, length-append m.constraints (c ∷ []));
      cells = l.cells;
      nodes = omega (arith, l.nodes, nodes_constraint m c);
    })

-- `last` is the test of the nodes, which says nothing where the constraint has none
room_constraint : (m : Data) (c : Constraint) (k : ℕ) (last : Bool) → nodes_of c ≡ k → (is_within_limits m ≡ true → last ≡ nat_le (node_total m + k) 100000)
    → ((nat_lt (length m.constraints) 20000 && is_within_limits m) && last) ≡ is_within_limits (with_constraint c m)
room_constraint m c k last is tests = same_truth ((nat_lt (length m.constraints) 20000 && is_within_limits m) && last) (is_within_limits (with_constraint c m)) there back where
  there : ((nat_lt (length m.constraints) 20000 && is_within_limits m) && last) ≡ true → is_within_limits (with_constraint c m) ≡ true
  there h =
      let p = and_parts (nat_lt (length m.constraints) 20000 && is_within_limits m) last h in let q = and_parts (nat_lt (length m.constraints) 20000) (is_within_limits m) p.0 in
      let nodes = at_most (node_total m + k) 100000 (sym (tests q.1) ∙ p.1) in
      constraint_there m c q.1 (below (length m.constraints) 20000 q.0) (omega (arith, nodes, is))

  back : is_within_limits (with_constraint c m) ≡ true → ((nat_lt (length m.constraints) 20000 && is_within_limits m) && last) ≡ true
  back h =
      let l = limits_of (with_constraint c m) h in let before = constraint_back m c h in
      and_from _ _ (and_from _ _ (is_below (length m.constraints) 20000 (omega (arith, l.constraints, length-append m.constraints (c ∷ [])))) before)
      (tests before ∙ is_at_most (node_total m + k) 100000 (omega (arith, l.nodes, nodes_constraint m c, is)))

no_nodes : (m : Data) → is_within_limits m ≡ true → true ≡ nat_le (node_total m + 0) 100000
no_nodes m valid = sym (is_at_most (node_total m + 0) 100000 (omega (arith, (limits_of m valid).nodes)))

shuffle : (room small before last : Bool) → ((room && (small && before)) && last) ≡ (small && ((room && before) && last))
shuffle true true before last = refl
shuffle true false before last = refl
shuffle false true before last = refl
shuffle false false before last = refl

plain : (m : Data) (c : Constraint) (small : Bool) → nodes_of c ≡ 0
    → ((nat_lt (length m.constraints) 20000 && (small && is_within_limits m)) && true) ≡ (small && is_within_limits (with_constraint c m))
plain m c small none =
    shuffle (nat_lt (length m.constraints) 20000) small (is_within_limits m) true
    ∙ ap (λ b. small && b) (room_constraint m c 0 true none (no_nodes m))

bounded : (m : Data) (f : Cumul) (o : Option (List ℕ)) (c : Constraint) → nodes_of c ≡ 0
    → ((nat_lt (length m.constraints) 20000 && (true && is_within_limits (with_unnamed m f o))) && true) ≡ (true && is_within_limits (with_constraint c (with_unnamed m f o)))
bounded m f None c none = plain (with_unnamed m f None) c true none
bounded m f (Some n) c none = plain m c true none

abbrev pub node_test : Data → Logic → Bool
node_test m e = nat_le (node_total m + node_count (expr_of m e)) 100000

pub constraint_rooms : (m : Data) (c : Constrained)
    → ((nat_lt (length m.constraints) 20000 && (nat_le (length (members_written c)) 500 && is_within_limits (with_written m c))) && passes_if_any (node_test m) (logic_held c))
    ≡ (nat_le (length (members_written c)) 500 && is_within_limits (after m (Constrain c)))
constraint_rooms m (Between t a b z) = plain m (constraint_of m (Between t a b z)) true refl
constraint_rooms m (Parts Span a ns) = plain m (constraint_of m (Parts Span a ns)) true refl
constraint_rooms m (Parts Synchronize a ns) = plain m (constraint_of m (Parts Synchronize a ns)) true refl
constraint_rooms m (Alternative a ns n) = plain m (constraint_of m (Alternative a ns n)) true refl
constraint_rooms m (NoOverlap (over.Named p) s) = plain m (constraint_of m (NoOverlap (over.Named p) s)) true refl
constraint_rooms m (NoOverlap (over.Listed ns) s) = plain (with_written m (NoOverlap (over.Listed ns) s)) (constraint_of m (NoOverlap (over.Listed ns) s)) (nat_le (length ns) 500) refl
constraint_rooms m (Extreme First p a) = plain m (constraint_of m (Extreme First p a)) true refl
constraint_rooms m (Extreme Last p a) = plain m (constraint_of m (Extreme Last p a)) true refl
constraint_rooms m (Ordered Before p a b) = plain m (constraint_of m (Ordered Before p a b)) true refl
constraint_rooms m (Ordered Prev p a b) = plain m (constraint_of m (Ordered Prev p a b)) true refl
constraint_rooms m (Bounded f AtMost c) = bounded m f (named_itself f) (constraint_of m (Bounded f AtMost c)) refl
constraint_rooms m (Bounded f AtLeast c) = bounded m f (named_itself f) (constraint_of m (Bounded f AtLeast c)) refl
constraint_rooms m (AlwaysIn f w lo hi) = bounded m f (named_itself f) (constraint_of m (AlwaysIn f w lo hi)) refl
constraint_rooms m (AlwaysEqual g a v aligned) = plain m (constraint_of m (AlwaysEqual g a v aligned)) true refl
constraint_rooms m (AlwaysNoState g a) = plain m (constraint_of m (AlwaysNoState g a)) true refl
constraint_rooms m (Holds e) = room_constraint m (constraint_of m (Holds e)) (node_count (expr_of m e)) (node_test m e) refl (λ _. refl)

room_there : (room total count n : ℕ) → room + total ≡ 100000 → count ≡ capped n → count ≤ room → total + n ≤ 100000
unfolding capped
room_there room total count n sums is fits = omega (arith, sums, is, fits)

room_back : (room total count n : ℕ) → room + total ≡ 100000 → count ≡ capped n → total + n ≤ 100000 → count ≤ room
unfolding capped
room_back room total count n sums is fits = omega (arith, sums, is, fits)

pub node_rooms : (room total count n : ℕ) → room + total ≡ 100000 → count ≡ capped n → nat_le count room ≡ nat_le (total + n) 100000
node_rooms room total count n sums is = same_truth (nat_le count room) (nat_le (total + n) 100000)
    (λ h. is_at_most (total + n) 100000 (room_there room total count n sums is (at_most count room h)))
    (λ h. is_at_most count room (room_back room total count n sums is (at_most (total + n) 100000 h)))
