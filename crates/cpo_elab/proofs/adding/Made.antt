-- Room for many constraints at once.
use Rattle.std.proofs.Common.{◌≡◌, ℕ, ◌+◌, ◌≤◌, true, ◌&&◌, List, length, sum_by, nat_le, sym, ap, subst, ◌∙◌, arith}
use Rattle.std.proofs.lemmas.List.{length-append, length-map}
use Rattle.std.proofs.lemmas.List.Sums.{sum_by-append}
use Rattle.std.proofs.lemmas.Bool.{and_parts, and_from}
use Rattle.base_laws.specs.laws.Numbers.{at_most, is_at_most}
use Rattle.base_laws.specs.laws.Truth.{same_truth}
use Rattle.sched_base.specs.declared.ids.Itv.{Itv}
use Rattle.sched_model.specs.declared.types.Constraint.{Constraint}
use Rattle.sched_model.specs.Data.{Data}
use Rattle.sched_model.specs.Valid.{IsValid, nodes_of, node_total, is_within_limits}
use Rattle.sched_model.specs.laws.Limits.{limits_of, within_limits}
use Rattle.calendar.specs.declared.step.Pair.{Pair}
use Rattle.calendar.specs.declared.rules.Demand.{Demand}
use Rattle.calendar.specs.Steps.{closed_of}
use Rattle.calendar.specs.Rules.{rule_of, rules_of, with_constraints}
use Rattle.calendar.specs.code.Counts.{made_nodes}
use Rattle.calendar.specs.laws.Fitting.{made_counted}
use Rattle.cpo_elab.specs.declared.names.Meaning.{Meaning}
use Rattle.cpo_elab.specs.Named.{number_of}
use Rattle.cpo_elab.specs.code.Drafts.{IsDraft}

nodes_with : (m : Data) (cs : List Constraint) → node_total (with_constraints cs m) ≡ node_total m + sum_by nodes_of cs
nodes_with m cs = let more = sum_by-append nodes_of m.constraints cs in omega (arith, more)

pub room_constraints : (m : Data) (cs : List Constraint) → is_within_limits m ≡ true → (nat_le (length m.constraints + length cs) 20000 && nat_le (node_total m + sum_by nodes_of cs) 100000) ≡ is_within_limits (with_constraints cs m)
room_constraints m cs valid = same_truth (nat_le (length m.constraints + length cs) 20000 && nat_le (node_total m + sum_by nodes_of cs) 100000) (is_within_limits (with_constraints cs m)) there back where
  there : (nat_le (length m.constraints + length cs) 20000 && nat_le (node_total m + sum_by nodes_of cs) 100000) ≡ true → is_within_limits (with_constraints cs m) ≡ true
  there h =
      let p = and_parts (nat_le (length m.constraints + length cs) 20000) (nat_le (node_total m + sum_by nodes_of cs) 100000) h in let l = limits_of m valid in
      let few = at_most (length m.constraints + length cs) 20000 p.0 in let nodes = at_most (node_total m + sum_by nodes_of cs) 100000 p.1 in
      within_limits (with_constraints cs m) (record {
        intervals = l.intervals;
        sequences = l.sequences;
        matrices = l.matrices;
        cumuls = l.cumuls;
        states = l.states;
        constraints = omega (arith, few, length-append m.constraints cs);
        cells = l.cells;
        nodes = omega (arith, nodes, nodes_with m cs);
      })

  back : is_within_limits (with_constraints cs m) ≡ true → (nat_le (length m.constraints + length cs) 20000 && nat_le (node_total m + sum_by nodes_of cs) 100000) ≡ true
  back h = let l = limits_of (with_constraints cs m) h in
      and_from _ _ (is_at_most (length m.constraints + length cs) 20000 (omega (arith, l.constraints, length-append m.constraints cs)))
      (is_at_most (node_total m + sum_by nodes_of cs) 100000 (omega (arith, l.nodes, nodes_with m cs)))

-- as the code counts
pub rooms_counted : (m : Data) (cs : List Constraint) (room count nodes : ℕ) → is_within_limits m ≡ true → room + node_total m ≡ 100000 → length cs ≡ count → sum_by nodes_of cs ≡ nodes
    → (nat_le (length m.constraints + count) 20000 && nat_le nodes room) ≡ is_within_limits (with_constraints cs m)
rooms_counted m cs room count nodes valid sums many all =
    ap (λ n. nat_le (length m.constraints + n) 20000 && nat_le nodes room) (sym many)
    ∙ ap (λ b. nat_le (length m.constraints + length cs) 20000 && b) (by_room room (node_total m) nodes sums ∙ ap (λ n. nat_le (node_total m + n) 100000) (sym all))
    ∙ room_constraints m cs valid
  where
    by_room : (room total nodes : ℕ) → room + total ≡ 100000 → nat_le nodes room ≡ nat_le (total + nodes) 100000
    by_room room total nodes sums = same_truth (nat_le nodes room) (nat_le (total + nodes) 100000)
        (λ h. let less = at_most nodes room h in is_at_most (total + nodes) 100000 (omega (arith, sums, less)))
        (λ h. let less = at_most (total + nodes) 100000 h in is_at_most nodes room (omega (arith, sums, less)))

-- of a calendar
pub many_rules : (demand : Demand) (x : Itv) (ps rs : List Pair) → rs ≡ closed_of ps → length (rules_of demand x ps) ≡ length rs
many_rules demand x ps rs is = length-map (closed_of ps) (rule_of demand x) ∙ sym (ap length is)

pub rules_counted : (demand : Demand) (x : Itv) (ps rs : List Pair) (n : ℕ) → rs ≡ closed_of ps → n ≡ made_nodes demand rs → sum_by nodes_of (rules_of demand x ps) ≡ n
rules_counted demand x ps rs n is count = made_counted demand x (closed_of ps) ∙ sym (ap (made_nodes demand) is) ∙ sym count

-- with the constraints of a calendar

pub room_for_rules : (m : Data) (cs : List Constraint) (room nodes : ℕ) → room + node_total m ≡ 100000 → is_within_limits (with_constraints cs m) ≡ true → sum_by nodes_of cs ≡ nodes → nodes ≤ room
room_for_rules m cs room nodes sums fits all = let l = limits_of (with_constraints cs m) fits in omega (arith, sums, l.nodes, nodes_with m cs, all)

pub grown_rules : (table : List (List ℕ × Meaning)) (cells room room' nodes : ℕ) (m n : Data) (cs : List Constraint) → IsDraft table cells room m → n ≡ with_constraints cs m → IsValid (with_constraints cs m) → sum_by nodes_of cs ≡ nodes → room' + nodes ≡ room → IsDraft table cells room' n
unfolding number_of
grown_rules table cells room room' nodes m n cs draft is valid all left = subst (IsDraft table cells room') (sym is) made
  where
    made : IsDraft table cells room' (with_constraints cs m)
    made = record {
      names = draft.names;
      cell_sum = draft.cell_sum;
      room_sum = (let sums = draft.room_sum in omega (arith, sums, left, all, nodes_with m cs));
      valid = valid;
    }
