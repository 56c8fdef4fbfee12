-- The canonical statements of a model are judged to be the model.
use Rattle.std.proofs.Common.{◌≡◌, ℕ, ◌+◌, ◌≤◌, Bool, true, false, ◌&&◌, ◌||◌, if◌then◌else◌, List, [], ◌∷◌, ◌++◌, map, filter_map, length, Option, Some, None, option_map, is_some, is_none, nat_le, nat_lt, refl, sym, ap, subst, ◌∙◌, arith}
use Rattle.std.specs.List.{filter, list_all, sum_by}
use Rattle.std.specs.Option.{option_to_list, IfSome}
use Rattle.std.proofs.lemmas.List.{append-nil, length-map}
use Rattle.std.proofs.lemmas.List.Sums.{sum_by-cons}
use Rattle.std.proofs.lemmas.Bool.{and_parts, or_from}
use Rattle.std.proofs.lemmas.Bool.Decides.{nat_tests}
use Rattle.base_laws.specs.laws.Kept.{names_kept}
use Rattle.sched_model.specs.declared.types.SequenceDef.{SequenceDef}
use Rattle.sched_model.specs.declared.types.CumulDef.{CumulDef}
use Rattle.sched_model.specs.declared.types.Expr.{Expr}
use Rattle.sched_model.specs.declared.types.Sense.{Sense as Aimed}
use Rattle.sched_model.specs.declared.types.Sense.TheVariants as aimed
use Rattle.sched_model.specs.declared.types.Objective.{Objective}
use Rattle.sched_model.specs.Words.{all_of, is_empty, passes_if_any}
use Rattle.sched_model.specs.Data.{Data, empty_model, with_objective}
use Rattle.sched_model.specs.Hull.{hull_of}
use Rattle.sched_model.specs.Rank.{rank_of, rank_within, criteria_of, IsRanked}
use Rattle.sched_model.specs.Valid.{IsValid, is_expr, node_count, node_total}
use Rattle.cpo_text.specs.declared.expression.Logic.{Logic}
use Rattle.cpo_text.specs.declared.tree.Sense.{Sense}
use Rattle.cpo_text.specs.declared.tree.Statement.TheVariants.{Constrain}
use Rattle.cpo_elab.specs.Named.{some_in_logic}
use Rattle.cpo_elab.specs.Factors.{factor_of}
use Rattle.cpo_elab.specs.Elaborated.{after, sense_of, expr_of, objective_of}
use Rattle.cpo_elab.specs.Judged.{statement_limit, node_limit, is_crowded, lacks_hull}
use Rattle.cpo_elab.specs.lemmas.Criteria.{criteria_are, nodes_mapped}
use Rattle.cpo_elab.specs.Answers.Answer.{Accepted}
use Rattle.cpo_elab.specs.NamedFirst.{is_named_sequence, is_named_cumul}
use Rattle.cpo_elab.specs.NamedFirstLaws.{NothingMoves}
use Rattle.read_back.specs.Trees.{interval_tree, matrix_tree, sequence_tree, cumul_tree, state_tree, constraint_tree, logic_tree, sense_tree, aim_tree, objective_tree, canonical_statements}
use Rattle.read_back.specs.Written.{IsWritten, is_written_expr}
use Rattle.read_back.specs.Laws.{ExpressionsReturn, FactorsReturn, ExpressionsNameIntervals, CanonicalIsJudged}
use Rattle.read_back.proofs.Truth.{none_of_map, the_other}
use Rattle.read_back.proofs.judge.Few.{few_statements}
use Rattle.read_back.proofs.judge.Frame.{Leads, leads_on, lead, phase, every, judged_leads}
use Rattle.read_back.proofs.judge.Limits.{aimed_within}
use Rattle.read_back.proofs.judge.Definitions.{at_intervals, interval_step, at_matrices, matrix_step}
use Rattle.read_back.proofs.judge.Named.{named_front}
use Rattle.read_back.proofs.judge.Sequences.{at_sequences, sequence_step}
use Rattle.read_back.proofs.judge.Cumuls.{at_cumuls, cumul_step}
use Rattle.read_back.proofs.judge.States.{Heads, at_states, state_step}
use Rattle.read_back.proofs.judge.Middle.{mid}
use Rattle.read_back.proofs.judge.Plain.{hull_there, names_there, sparse_there}
use Rattle.read_back.proofs.judge.Left.{named, all_left}
use Rattle.read_back.proofs.judge.Walk.{Whole, walk}

-- the objective

sense_back : (a : Aimed) → sense_of (sense_tree a) ≡ a
sense_back aimed.Minimize = refl
sense_back aimed.Maximize = refl

abbrev all_but : Data → Data
all_but m = mid m m.sequences m.cumuls m.constraints

-- what is known of the objective
record Objected (m : Data) (o : Objective) : Type 0 where
  is : m.objective ≡ Some o
  valid : IsValid m
  ranked : IsRanked m o
  exprs : list_all (is_expr m) (criteria_of o) ≡ true
  written : list_all is_written_expr (criteria_of o) ≡ true
  whole : is_expr m o.expr ≡ true

objected : (m : Data) (o : Objective) → Whole m → m.objective ≡ Some o → Objected m o
objected m o w is =
    let ranked = subst (λ q. IfSome q (IsRanked m)) is w.valid.criteria in
    let whole = ap (passes_if_any (λ (o : Objective). is_expr m o.expr)) (sym is) ∙ w.valid.objective in
    record {
      is = is;
      valid = w.valid;
      ranked = ranked;
      exprs = criteria_are m o ranked whole;
      written = ap (passes_if_any (λ (o : Objective). list_all is_written_expr (criteria_of o))) (sym is) ∙ w.written.objective;
      whole = whole;
    }

-- the model with this objective
objective_last : (m : Data) (o p : Objective) → m.objective ≡ Some o → p ≡ o → with_objective p (all_but m) ≡ m
objective_last m o p is same =
    let some = sym is in
    (λ i. with_objective (same i) (all_but m))
    ∙ (λ i. record { intervals = m.intervals; matrices = m.matrices; sequences = m.sequences; cumuls = m.cumuls; states = m.states; constraints = m.constraints; objective = some i })

-- one expression

plain_objective : (o : Objective) (s : Aimed) (e : Expr) → s ≡ o.sense → e ≡ o.expr → is_empty o.criteria ≡ true → record { sense = s; expr = e; criteria = [] } ≡ o
plain_objective o s e sense expr none =
    let criteria = empty_is o.criteria none in
    λ i. record { sense = sense i; expr = expr i; criteria = criteria i }
  where
    empty_is : (es : List Expr) → is_empty es ≡ true → [] ≡ es
    empty_is [] h = refl
    empty_is (e ∷ es) h = cc

aim_one : ExpressionsReturn → FactorsReturn → ExpressionsNameIntervals → (m : Data) (o : Objective) → Objected m o → is_empty o.criteria ≡ true → Leads (all_but m) (aim_tree m true o ∷ []) m
aim_one return factors name m o k none =
    let n = all_but m in
    let e = o.expr in
    let written = (and_parts (is_written_expr e) true (ap (λ b. list_all is_written_expr (if b then e ∷ [] else o.criteria)) (sym none) ∙ k.written)).0 in
    let back = return m n e k.valid refl k.whole written in
    let one = sum_by-cons node_count e [] in
    let count : node_count e ≡ sum_by node_count (criteria_of o) = omega (arith, one, ap (λ b. sum_by node_count (if b then e ∷ [] else o.criteria)) none) in
    lead n m m (aim_tree m true o) [] (record {
      fresh = refl;
      names = names_there name m m.sequences m.cumuls m.constraints k.valid e k.whole;
      joins = refl;
      ordered = refl;
      signs = refl;
      fitting = refl;
      once = refl;
      narrow = refl;
      room = ap (λ e. nat_le (node_total n + node_count e) node_limit) back ∙ aimed_within m o (node_count e) k.valid.limits k.is count;
      single = refl;
      hull = hull_there return m m.sequences m.cumuls m.constraints k.valid e k.whole written;
      sparse = or_from (is_crowded (factor_of (logic_tree m e))) false (sparse_there factors m e written) refl;
      own = refl;
    }) (objective_last m o _ k.is (plain_objective o _ _ (sense_back o.sense) back none)) refl

-- several

all_back : ExpressionsReturn → (m : Data) → IsValid m → (es : List Expr) → list_all (is_expr m) es ≡ true → list_all is_written_expr es ≡ true → map (expr_of (all_but m)) (map (logic_tree m) es) ≡ es
all_back return m v [] are written = refl
all_back return m v (e ∷ es) are written =
    let a = and_parts (is_expr m e) (list_all (is_expr m) es) are in
    let b = and_parts (is_written_expr e) (list_all is_written_expr es) written in
    let first = return m (all_but m) e v refl a.0 b.0 in
    let rest = all_back return m v es a.1 b.1 in
    λ i. first i ∷ rest i

ranked_objective : (m : Data) (o : Objective) (s : Sense) → sense_of s ≡ o.sense → o.expr ≡ rank_of m o.criteria → nat_le 2 (length o.criteria) ≡ true → objective_of (all_but m) s o.criteria ≡ o
ranked_objective m o s sense rank many = by o.criteria refl many
  where
    by : (es : List Expr) → o.criteria ≡ es → nat_le 2 (length es) ≡ true → objective_of (all_but m) s es ≡ o
    by [] is many = cc
    by (e ∷ []) is many = cc
    by (e ∷ f ∷ es) is many =
        let expr : rank_of m (e ∷ f ∷ es) ≡ o.expr = sym (rank ∙ ap (rank_of m) is) in
        let criteria = sym is in
        λ i. record { sense = sense i; expr = expr i; criteria = criteria i }

has_rank : (m : Data) (o : Objective) → Objected m o → is_empty o.criteria ≡ false → is_none (rank_within m o.criteria) ≡ false
has_rank m o k some =
    let hull = (and_parts _ (is_some (hull_of m o.expr)) k.whole).1 in
    by (is_some (all_of (map (hull_of m) o.criteria))) (is_some (hull_of m (rank_of m o.criteria))) k.ranked.hulls (ap (λ e. is_some (hull_of m e)) (sym (k.ranked.rank some)) ∙ hull)
  where
    by : (a b : Bool) → a ≡ true → b ≡ true → is_none (if a && b then Some (rank_of m o.criteria) else None) ≡ false
    by true true p q = refl
    by true false p q = cc
    by false b p q = cc

lacks_none : (n : Data) (es : List Expr) → nat_le 2 (length es) ≡ true → is_none (rank_within n es) ≡ false → lacks_hull n es ≡ false
lacks_none n [] many h = refl
lacks_none n (e ∷ []) many h = cc
lacks_none n (e ∷ f ∷ es) many h = h

many_of : (o : Objective) → is_empty o.criteria ≡ false → (is_empty o.criteria || (nat_le 2 (length o.criteria) && nat_le (length o.criteria) 8)) ≡ true → (nat_le 2 (length o.criteria) ≡ true) × (nat_le (length o.criteria) 8 ≡ true)
many_of o some many = and_parts (nat_le 2 (length o.criteria)) (nat_le (length o.criteria) 8) (the_other (is_empty o.criteria) _ many some)

not_wide : (n : ℕ) → nat_le n 8 ≡ true → nat_lt 8 n ≡ false
not_wide n h = grind (arith, nat_tests)

aim_several : ExpressionsReturn → FactorsReturn → ExpressionsNameIntervals → (m : Data) (o : Objective) → Objected m o → is_empty o.criteria ≡ false → Leads (all_but m) (aim_tree m false o ∷ []) m
aim_several return factors name m o k some =
    let n = all_but m in
    let es : List Expr = o.criteria in
    let ts : List Logic = map (logic_tree m) es in
    let are : list_all (is_expr m) es ≡ true = ap (λ b. list_all (is_expr m) (if b then o.expr ∷ [] else es)) (sym some) ∙ k.exprs in
    let written : list_all is_written_expr es ≡ true = ap (λ b. list_all is_written_expr (if b then o.expr ∷ [] else es)) (sym some) ∙ k.written in
    let back = all_back return m k.valid es are written in
    let many = many_of o some k.ranked.many in
    let count : sum_by (λ t. node_count (expr_of n t)) ts ≡ sum_by node_count (criteria_of o) =
    sym (nodes_mapped n ts) ∙ ap (sum_by node_count) back ∙ ap (λ b. sum_by node_count (if b then o.expr ∷ [] else es)) (sym some) in
    let made_it : after n (aim_tree m false o) ≡ with_objective (objective_of n (sense_tree o.sense) es) n = ap (λ xs. with_objective (objective_of n (sense_tree o.sense) xs) n) back in
    lead n m m (aim_tree m false o) [] (record {
      fresh = refl;
      names = λ test blind. none_of_map (logic_tree m) (is_expr m) (some_in_logic test) (λ e it. names_there name m m.sequences m.cumuls m.constraints k.valid e it test blind) es are;
      joins = refl;
      ordered = refl;
      signs = refl;
      fitting = refl;
      once = refl;
      narrow = or_from (nat_lt 8 (length ts)) false (ap (nat_lt 8) (length-map es (logic_tree m)) ∙ not_wide (length es) many.1) refl;
      room = aimed_within m o (sum_by (λ t. node_count (expr_of n t)) ts) k.valid.limits k.is count;
      single = refl;
      hull = ap (lacks_hull n) back ∙ lacks_none n es many.0 (has_rank m o k some);
      sparse = none_of_map (logic_tree m) is_written_expr (λ t. is_crowded (factor_of t)) (λ e is. sparse_there factors m e is) es written;
      own = refl;
    }) (made_it ∙ objective_last m o _ k.is (ranked_objective m o (sense_tree o.sense) (sense_back o.sense) (k.ranked.rank some) many.0)) refl

aim : ExpressionsReturn → FactorsReturn → ExpressionsNameIntervals → (m : Data) → Whole m → (o : Option Objective) → m.objective ≡ o → Leads (all_but m) (map (objective_tree m) (option_to_list o)) m
aim return factors name m w None is =
    let none = sym is in
    λ i. record { intervals = m.intervals; matrices = m.matrices; sequences = m.sequences; cumuls = m.cumuls; states = m.states; constraints = m.constraints; objective = none i }
aim return factors name m w (Some o) is = by (is_empty o.criteria) refl
  where
    by : (b : Bool) → is_empty o.criteria ≡ b → Leads (all_but m) (aim_tree m b o ∷ []) m
    by true none = aim_one return factors name m o (objected m o w is) none
    by false some = aim_several return factors name m o (objected m o w is) some

-- the phases

heads : (m : Data) → Whole m → Heads m (filter is_named_sequence m.sequences) (filter is_named_cumul m.cumuls)
heads m w = record {
  sequences = named_front is_named_sequence m.sequences m.sequences [] w.sequences (append-nil m.sequences);
  cumuls = named_front is_named_cumul m.cumuls m.cumuls [] w.cumuls (append-nil m.cumuls);
  sequence_names = names_kept (λ (d : SequenceDef). d.name) m.sequences;
  cumul_names = names_kept (λ (d : CumulDef). d.name) m.cumuls;
}

constrained : ExpressionsReturn → FactorsReturn → ExpressionsNameIntervals → (m : Data) → Whole m
    → Leads (at_states m (filter is_named_sequence m.sequences) (filter is_named_cumul m.cumuls) m.states) (map (λ c. Constrain (constraint_tree m c)) m.constraints) (all_but m)
constrained return factors name m w =
    let same : mid m (named is_named_sequence m.sequences ++ []) (named is_named_cumul m.cumuls ++ []) [] ≡ at_states m (filter is_named_sequence m.sequences) (filter is_named_cumul m.cumuls) m.states =
    λ i. mid m (append-nil (named is_named_sequence m.sequences) i) (append-nil (named is_named_cumul m.cumuls) i) [] in
    subst (λ n. Leads n (map (λ c. Constrain (constraint_tree m c)) m.constraints) (all_but m)) same
    (walk return factors name m w [] [] [] m.constraints refl (all_left is_named_sequence m.sequences _ w.written.listed) (all_left is_named_cumul m.cumuls _ w.written.unnamed))

whole_leads : ExpressionsReturn → FactorsReturn → ExpressionsNameIntervals → (m : Data) → Whole m → Leads empty_model (canonical_statements m) m
whole_leads return factors name m w =
    let v = w.valid in
    let s = filter is_named_sequence m.sequences in
    let c = filter is_named_cumul m.cumuls in
    let a_tree = map interval_tree m.intervals in
    let b_tree = map matrix_tree m.matrices in
    let c_tree = filter_map (λ (d : SequenceDef). option_map (sequence_tree m d) d.name) m.sequences in
    let d_tree = filter_map (λ (d : CumulDef). option_map (cumul_tree m d) d.name) m.cumuls in
    let e_tree = map (state_tree m) m.states in
    let f_tree = map (λ c. Constrain (constraint_tree m c)) m.constraints in
    let g_tree = map (objective_tree m) (option_to_list m.objective) in
    let first : Leads empty_model a_tree (at_intervals m.intervals) = every interval_tree at_intervals m.intervals (interval_step m v) in
    let second : Leads empty_model (a_tree ++ b_tree) (at_matrices m m.matrices) =
    leads_on empty_model (at_matrices m []) (at_matrices m m.matrices) a_tree b_tree first (every matrix_tree (at_matrices m) m.matrices (matrix_step m v)) in
    let third : Leads empty_model (a_tree ++ b_tree ++ c_tree) (at_sequences m m.sequences) =
    leads_on empty_model (at_sequences m []) (at_sequences m m.sequences) (a_tree ++ b_tree) c_tree second
    (phase (λ (d : SequenceDef). option_map (sequence_tree m d) d.name) (at_sequences m) m.sequences (sequence_step m v w.sequences) [] m.sequences refl) in
    let fourth : Leads empty_model (a_tree ++ b_tree ++ c_tree ++ d_tree) (at_cumuls m m.cumuls) =
    leads_on empty_model (at_cumuls m []) (at_cumuls m m.cumuls) (a_tree ++ b_tree ++ c_tree) d_tree third
    (phase (λ (d : CumulDef). option_map (cumul_tree m d) d.name) (at_cumuls m) m.cumuls (cumul_step m v w.sequences w.cumuls w.written.parts) [] m.cumuls refl) in
    let fifth : Leads empty_model (a_tree ++ b_tree ++ c_tree ++ d_tree ++ e_tree) (at_states m s c m.states) =
    leads_on empty_model (at_states m s c []) (at_states m s c m.states) (a_tree ++ b_tree ++ c_tree ++ d_tree) e_tree fourth
    (every (state_tree m) (at_states m s c) m.states (state_step m v s c (heads m w))) in
    let sixth : Leads empty_model (a_tree ++ b_tree ++ c_tree ++ d_tree ++ e_tree ++ f_tree) (all_but m) =
    leads_on empty_model (at_states m s c m.states) (all_but m) (a_tree ++ b_tree ++ c_tree ++ d_tree ++ e_tree) f_tree fifth (constrained return factors name m w) in
    leads_on empty_model (all_but m) m (a_tree ++ b_tree ++ c_tree ++ d_tree ++ e_tree ++ f_tree) g_tree sixth (aim return factors name m w m.objective refl)

whole : NothingMoves → (m : Data) → IsValid m → IsWritten m → Whole m
whole nothing m v w = let same = nothing m v w.sequences w.cumuls in record {
  valid = v;
  written = w;
  sequences = ap (λ m. m.sequences) same;
  cumuls = ap (λ m. m.cumuls) same;
}

pub canonical_is_judged : ExpressionsReturn → FactorsReturn → ExpressionsNameIntervals → NothingMoves → CanonicalIsJudged
canonical_is_judged return factors name nothing m xs v w are =
    judged_leads empty_model m 1 (canonical_statements m) xs (whole_leads return factors name m (whole nothing m v w)) (room (length (canonical_statements m)) (few_statements m v)) are
    ∙ ap Accepted (nothing m v w.sequences w.cumuls) where
      room : (n : ℕ) → n ≤ statement_limit → 1 + n ≤ statement_limit + 1
      room n few = omega arith
