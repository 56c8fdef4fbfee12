-- A statement that deserves no number leaves a valid model valid.
use Rattle.std.proofs.Common.{◌≡◌, ℕ, ◌+◌, true, false, not, ◌&&◌, List, [], ◌∷◌, map, length, sum_by, Option, Some, None, is_some, is_none, nat_le, nat_lt, refl, sym, ap, subst, ◌∙◌, arith}
use Rattle.std.specs.Option.{option_to_list}
use Rattle.std.specs.List.{list_all, list_any}
use Rattle.std.proofs.lemmas.Bool.Decides.{nat_tests}
use Rattle.std.proofs.lemmas.List.{length-map}
use Rattle.std.proofs.lemmas.List.Sums.{sum_by-cons}
use Rattle.std.proofs.lemmas.Bool.{and_parts, and_from, or_parts}
use Rattle.sched_model.specs.declared.types.Expr.{Expr}
use Rattle.sched_model.specs.Words.{is_empty, passes_if_any}
use Rattle.sched_model.specs.Rank.{criteria_of, rank_within, IsRanked}
use Rattle.sched_model.specs.declared.types.Objective.{Objective}
use Rattle.sched_model.specs.Data.{Data, with_objective}
use Rattle.sched_model.specs.Valid.{IsValid, is_expr, is_within_limits, node_total, node_count, cell_count}
use Rattle.cpo_text.specs.declared.expression.Logic.{Logic}
use Rattle.cpo_text.specs.declared.tree.Constrained.{Constrained}
use Rattle.cpo_text.specs.declared.tree.Sense.{Sense}
use Rattle.cpo_text.specs.declared.tree.Statement.{Statement}
use Rattle.cpo_text.specs.declared.tree.Statement.TheVariants.{Empty, Define, Constrain, Forbid, Aim, Rank}
use Rattle.cpo_elab.specs.Held.{logic_held}
use Rattle.cpo_elab.specs.Named.{some_in_logic}
use Rattle.cpo_elab.specs.Judged.{is_of_other_sort}
use Rattle.cpo_elab.specs.Elaborated.{expr_of, after, objective_of, with_written}
use Rattle.cpo_elab.specs.code.Judging.{IsClear}
use Rattle.cpo_elab.specs.Shaped.{is_shaped, is_spelt, has_operands}
use Rattle.cpo_elab.proofs.judging.Clear.{clear}
use Rattle.cpo_elab.proofs.judging.Facts.{Facts, facts}
use Rattle.cpo_elab.specs.lemmas.Criteria.{nodes_mapped}
use Rattle.cpo_elab.proofs.adding.Growing.{is_tree}
use Rattle.cpo_elab.proofs.adding.Ranked.{criteria_stay, has_rank, rank_made}
use Rattle.cpo_elab.proofs.values.Expressions.{made, expr_made}
use Rattle.cpo_elab.proofs.judging.Defined.{define_valid}
use Rattle.cpo_elab.proofs.judging.Stated.{written_valid, constrain_valid}

-- objectives

only : {X : Type 0} (f : X → ℕ) (o : Option X) (x : X) → is_some o ≡ false → sum_by f (option_to_list (Some x)) ≡ sum_by f (option_to_list o) + f x
only f None x none = refl
only f (Some y) x none = cc none

nodes_with : (m : Data) (o : Objective) → is_some m.objective ≡ false → node_total (with_objective o m) ≡ node_total m + sum_by node_count (criteria_of o)
nodes_with m o none = let more = only (λ o. sum_by node_count (criteria_of o)) m.objective o none in omega (arith, more)

limits_with : (m : Data) (o : Objective) → is_some m.objective ≡ false → is_within_limits m ≡ true → nat_le (node_total m + sum_by node_count (criteria_of o)) 100000 ≡ true → is_within_limits (with_objective o m) ≡ true
limits_with m o none before room =
    let parts = and_parts (nat_le (length m.intervals) 2000 && nat_le (length m.sequences) 200 && nat_le (length m.matrices) 200 && nat_le (length m.cumuls) 2000 && nat_le (length m.states) 200
    && nat_le (length m.constraints) 20000 && nat_le (cell_count m) 1000000) (nat_le (node_total m) 100000) before in
    and_from _ _ parts.0 (ap (λ n. nat_le n 100000) (nodes_with m o none) ∙ room)

-- what an objective needs to be one of a valid model
record IsAim (m : Data) (o : Objective) : Type 0 where
  none : is_some m.objective ≡ false
  expr : is_expr m o.expr ≡ true
  ranked : IsRanked m o
  room : nat_le (node_total m + sum_by node_count (criteria_of o)) 100000 ≡ true

aim_valid : (m : Data) (o : Objective) → IsValid m → IsAim m o → IsValid (with_objective o m)
aim_valid m o before aim = record {
  names = before.names;
  intervals = before.intervals;
  matrices = before.matrices;
  sequences = before.sequences;
  cumuls = before.cumuls;
  states = before.states;
  constraints = before.constraints;
  objective = aim.expr;
  criteria = criteria_stay m (with_objective o m) (λ e. refl) (Some o) aim.ranked;
  limits = limits_with m o aim.none before.limits aim.room;
}

-- two to eight
many_some : (d e : Expr) (es : List Expr) → nat_lt 8 (length (d ∷ e ∷ es)) ≡ false → (nat_le 2 (length (d ∷ e ∷ es)) && nat_le (length (d ∷ e ∷ es)) 8) ≡ true
many_some d e es h = let n = length es in grind (arith, nat_tests)

one_count : (e : Expr) → node_count e ≡ sum_by node_count (e ∷ [])
one_count e = omega (arith, sum_by-cons node_count e [])

single_aim : (m : Data) (s : Sense) (e : Expr) → is_some m.objective ≡ false → is_expr m e ≡ true → nat_le (node_total m + node_count e) 100000 ≡ true → IsAim m (objective_of m s (e ∷ []))
single_aim m s e none made room = record {
  none = none;
  expr = made;
  ranked = record { many = refl; hulls = refl; rank = λ h. cc h };
  room = subst (λ k. nat_le (node_total m + k) 100000 ≡ true) (one_count e) room;
}

several_aim : (m : Data) (s : Sense) (d e : Expr) (es : List Expr) → is_some m.objective ≡ false → list_all (is_tree m) (d ∷ e ∷ es) ≡ true → nat_lt 8 (length (d ∷ e ∷ es)) ≡ false
    → is_none (rank_within m (d ∷ e ∷ es)) ≡ false → nat_le (node_total m + sum_by node_count (d ∷ e ∷ es)) 100000 ≡ true → IsAim m (objective_of m s (d ∷ e ∷ es))
several_aim m s d e es none trees few rank room =
    let has = has_rank m (d ∷ e ∷ es) rank in
    record {
      none = none;
      expr = rank_made m (d ∷ e ∷ es) trees has;
      ranked = record { many = many_some d e es few; hulls = has.hulls; rank = λ h. refl };
      room = room;
    }

pub known : (m : Data) (s : Statement) → IsValid m → IsClear m s → Facts m s
known m s before (st, k, is, none) = subst (λ x. Facts x s) is (facts st k s (subst IsValid (sym is) before) (clear st k s none))

-- the expression of a constraint
held_operands : (o : Option Logic) → list_all has_operands (option_to_list o) ≡ true → passes_if_any has_operands o ≡ true
held_operands None h = refl
held_operands (Some e) h = (and_parts (has_operands e) true h).0

trees_made : (m : Data) (es : List Logic) → list_any (some_in_logic (is_of_other_sort m)) es ≡ false → list_all has_operands es ≡ true → list_all (is_tree m) (map (expr_of m) es) ≡ true
trees_made m [] right shaped = refl
trees_made m (e ∷ es) right shaped =
    let r = or_parts (some_in_logic (is_of_other_sort m) e) _ right in
    let s = and_parts (has_operands e) _ shaped in
    and_from (is_tree m (expr_of m e)) _ (made m e r.0 s.0) (trees_made m es r.1 s.1)

rank_aim : (m : Data) (s : Sense) (es : List Logic) → not (is_empty es) ≡ true → list_all has_operands es ≡ true → Facts m (Rank s es) → IsAim m (objective_of m s (map (expr_of m) es))
rank_aim m s [] some shaped facts = cc
rank_aim m s (e ∷ []) some shaped facts =
    single_aim m s (expr_of m e) facts.single
    (expr_made m e (or_parts (some_in_logic (is_of_other_sort m) e) _ facts.uses).0 (and_parts (has_operands e) true shaped).0 facts.hull)
    (subst (λ n. nat_le (node_total m + n) 100000 ≡ true) (sum_by-cons (λ x. node_count (expr_of m x)) e [] ∙ omega arith) facts.room)
rank_aim m s (d ∷ e ∷ es) some shaped facts =
    several_aim m s (expr_of m d) (expr_of m e) (map (expr_of m) es) facts.single (trees_made m (d ∷ e ∷ es) facts.uses shaped)
    (ap (λ n. nat_lt 8 n) (length-map (d ∷ e ∷ es) (expr_of m)) ∙ facts.few) facts.hull
    (subst (λ n. nat_le (node_total m + n) 100000 ≡ true) (sym (nodes_mapped m (d ∷ e ∷ es))) facts.room)

pub valid_after : (m : Data) (s : Statement) → IsValid m → is_shaped s ≡ true → IsClear m s → IsValid (after m s)
valid_after m Empty before shaped clear = before
valid_after m (Define n d) before shaped clear = define_valid m n d before (and_parts (is_spelt n) true shaped).0 (known m (Define n d) before clear)
valid_after m (Constrain c) before shaped clear = constrain_valid m c before (held_operands (logic_held c) shaped) (known m (Constrain c) before clear)
valid_after m (Forbid w a f) before shaped clear = before
valid_after m (Aim s e) before shaped clear =
    let facts = known m (Aim s e) before clear in
    let operands = and_parts (has_operands e) true shaped in
    aim_valid m (objective_of m s (expr_of m e ∷ [])) before (single_aim m s (expr_of m e) facts.single (expr_made m e facts.uses operands.0 facts.hull) facts.room)
valid_after m (Rank s es) before shaped clear =
    let parts = and_parts (not (is_empty es)) (list_all has_operands es) shaped in
    aim_valid m (objective_of m s (map (expr_of m) es)) before (rank_aim m s es parts.0 parts.1 (known m (Rank s es) before clear))

pub valid_written : (m : Data) (c : Constrained) → IsValid m → IsClear m (Constrain c) → IsValid (with_written m c)
valid_written m c before clear = written_valid m c before (known m (Constrain c) before clear)
