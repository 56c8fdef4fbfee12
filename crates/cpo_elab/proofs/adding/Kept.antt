-- What is in a valid model is well made in every larger model, and a model with less in it keeps within the limits.
use Rattle.std.proofs.Common.{◌≡◌, ℕ, ◌+◌, true, ◌&&◌, [], ◌∷◌, ◌++◌, length, nat_le, refl, sym, ap, ◌∙◌, arith}
use Rattle.std.specs.List.{list_all}
use Rattle.std.specs.Option.{IfSome}
use Rattle.std.proofs.lemmas.Bool.Decides.{nat_tests}
use Rattle.std.proofs.lemmas.List.{length_push}
use Rattle.std.proofs.lemmas.List.Sums.{sum_by_push}
use Rattle.std.proofs.lemmas.Bool.{and_parts, and_from}
use Rattle.base_laws.specs.laws.Items.{all_push, all_weaker}
use Rattle.sched_model.specs.declared.types.Constraint.{Constraint}
use Rattle.sched_model.specs.Words.{passes_if_any}
use Rattle.sched_model.specs.Data.{Data, with_constraint}
use Rattle.sched_model.specs.Rank.{IsRanked}
use Rattle.sched_model.specs.Valid.{IsValid, is_sequence_def, is_cumul_def, is_state_def, is_constraint, is_expr, is_within_limits, node_total, nodes_of, cell_count}
use Rattle.cpo_elab.proofs.adding.Extends.{Extends, sequence_def_grows, cumul_def_grows, state_def_grows}
use Rattle.cpo_elab.proofs.adding.Growing.{constraints_grow, objective_grows}
use Rattle.cpo_elab.proofs.adding.Ranked.{criteria_stay, criteria_grow}

pub record Kept (m n : Data) : Type 0 where
  pub sequences : list_all (is_sequence_def n) m.sequences ≡ true
  pub cumuls : list_all (is_cumul_def n) m.cumuls ≡ true
  pub states : list_all (is_state_def n) m.states ≡ true
  pub constraints : list_all (is_constraint n) m.constraints ≡ true
  pub objective : passes_if_any (λ o. is_expr n o.expr) m.objective ≡ true
  pub criteria : IfSome m.objective (IsRanked n)

pub kept : (m n : Data) → Extends m n → IsValid m → Kept m n
kept m n more valid = record {
  sequences = all_weaker (is_sequence_def m) (is_sequence_def n) (sequence_def_grows m n more) m.sequences valid.sequences;
  cumuls = all_weaker (is_cumul_def m) (is_cumul_def n) (cumul_def_grows m n more) m.cumuls valid.cumuls;
  states = all_weaker (is_state_def m) (is_state_def n) (state_def_grows m n more) m.states valid.states;
  constraints = constraints_grow m n more valid.states m.constraints valid.constraints;
  objective = objective_grows m n more m.objective valid.objective;
  criteria = criteria_grow m n more m.objective valid.objective valid.criteria;
}

-- limits

at_most_less : (n k limit : ℕ) → nat_le (n + k) limit ≡ true → nat_le n limit ≡ true
at_most_less n k limit h = grind (arith, nat_tests)

nodes_with : (m : Data) (c : Constraint) → node_total (with_constraint c m) ≡ node_total m + nodes_of c
nodes_with m c = let more = sum_by_push nodes_of m.constraints c in omega (arith, more)

pub limits_without : (m : Data) (c : Constraint) → is_within_limits (with_constraint c m) ≡ true → is_within_limits m ≡ true
limits_without m c h =
    let nodes = and_parts (nat_le (length m.intervals) 2000 && nat_le (length m.sequences) 200 && nat_le (length m.matrices) 200 && nat_le (length m.cumuls) 2000 && nat_le (length m.states) 200
    && nat_le (length (m.constraints ++ c ∷ [])) 20000 && nat_le (cell_count m) 1000000) (nat_le (node_total (with_constraint c m)) 100000) h in
    let cells = and_parts (nat_le (length m.intervals) 2000 && nat_le (length m.sequences) 200 && nat_le (length m.matrices) 200 && nat_le (length m.cumuls) 2000 && nat_le (length m.states) 200
    && nat_le (length (m.constraints ++ c ∷ [])) 20000) (nat_le (cell_count m) 1000000) nodes.0 in
    let others = and_parts (nat_le (length m.intervals) 2000 && nat_le (length m.sequences) 200 && nat_le (length m.matrices) 200 && nat_le (length m.cumuls) 2000 && nat_le (length m.states) 200)
    (nat_le (length (m.constraints ++ c ∷ [])) 20000) cells.0 in
    and_from _ _ (and_from _ _ (and_from _ _ others.0
    (at_most_less (length m.constraints) 1 20000 (ap (λ n. nat_le n 20000) (sym (length_push m.constraints c)) ∙ others.1))) cells.1)
    (at_most_less (node_total m) (nodes_of c) 100000 (ap (λ n. nat_le n 100000) (sym (nodes_with m c)) ∙ nodes.1))

pub with_constraint_valid : (m : Data) (c : Constraint) → IsValid m → is_constraint m c ≡ true → is_within_limits (with_constraint c m) ≡ true → IsValid (with_constraint c m)
with_constraint_valid m c valid here limits = record {
  names = valid.names;
  intervals = valid.intervals;
  matrices = valid.matrices;
  sequences = valid.sequences;
  cumuls = valid.cumuls;
  states = valid.states;
  constraints = all_push (is_constraint m) m.constraints c valid.constraints here;
  objective = valid.objective;
  criteria = criteria_stay m (with_constraint c m) (λ e. refl) m.objective valid.criteria;
  limits = limits;
}
