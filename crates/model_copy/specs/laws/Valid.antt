-- A reduced model is valid, and its solutions are the assignments that meet the constraints kept.
use Rattle.std.specs.Prelude.{◌≡◌, ℕ, suc, ◌+◌, ◌≤◌, Bool, true, false, ◌&&◌, List, [], ◌∷◌, Option, Some, None, All, IfSome, filter_map, slice_get, sum_by, length, is_some, nat_le}
use Rattle.std.specs.List.{list_all, cons_option}
use Rattle.std.specs.Option.{option_to_list}
use Rattle.std.proofs.Common.{refl, sym, ap, subst, ◌∙◌, arith, get_or}
use Rattle.std.proofs.Math.Path.{fun_ext}
use Rattle.std.proofs.lemmas.Bool.Decides.{nat_tests}
use Rattle.std.proofs.lemmas.List.Elements.{All-nil, All-cons, All-head, All-tail}
use Rattle.std.proofs.lemmas.List.Sums.{sum_by-cons}
use Rattle.base_laws.specs.laws.Items.{all_at}
use Rattle.sched_base.specs.declared.ids.Con.{Con}
use Rattle.sched_model.specs.declared.types.Assignment.{Assignment}
use Rattle.sched_model.specs.declared.types.Shape.{Shape}
use Rattle.sched_model.specs.declared.types.Shape.TheVariants.{Pulse, Step, PulseOf, StepAtStart, StepAtEnd}
use Rattle.sched_model.specs.declared.types.Window.{Window}
use Rattle.sched_model.specs.declared.types.Window.TheVariants.{Always, Moments, During}
use Rattle.sched_model.specs.declared.types.CumulDef.{CumulDef}
use Rattle.sched_model.specs.declared.types.Part.{Part}
use Rattle.sched_model.specs.declared.types.Expr.{Expr}
use Rattle.sched_model.specs.declared.types.Expr.TheOpen.{Expr-F}
use Rattle.sched_model.specs.declared.types.Expr.TheOpen.Expr-F.{Lit, StartOf, EndOf, SizeOf, LengthOf, PresenceOf, Neg, Sum, Product, Max, Min, Compare, Not, And, Or, Implies}
use Rattle.sched_model.specs.declared.types.Expr.TheFolds.{fold-Expr}
use Rattle.sched_model.specs.declared.types.Constraint.{Constraint}
use Rattle.sched_model.specs.declared.types.Constraint.TheVariants.{Temporal, Logic, CumulIn}
use Rattle.sched_model.specs.Data.{Data}
use Rattle.sched_model.specs.Ranges.{Ends}
use Rattle.sched_model.specs.Hull.{hull_step, hull_of}
use Rattle.sched_model.specs.Rank.{criteria_of}
use Rattle.sched_model.specs.Sentences.{Holds}
use Rattle.sched_model.specs.Solution.{IsSolution, IsKept, Meets}
use Rattle.sched_model.specs.Valid.{IsValid, is_shape, is_window, expr_step, is_expr, is_constraint, is_cumul_def, node_count, nodes_of, node_total, cell_count}
use Rattle.model_copy.specs.code.Reduced.{reduced, Rises}
use Rattle.model_copy.specs.laws.Fewer.{fewer}

-- what a model says of its parts doesn't depend on its constraints
same_shape : (m : Data) (keep : List Con) (s : Shape) → is_shape (reduced m keep) s ≡ is_shape m s
same_shape m keep (Pulse u v h) = refl
same_shape m keep (Step u h) = refl
same_shape m keep (PulseOf x h) = refl
same_shape m keep (StepAtStart x h) = refl
same_shape m keep (StepAtEnd x h) = refl

same_cumul : (m : Data) (keep : List Con) (f : CumulDef) → is_cumul_def (reduced m keep) f ≡ is_cumul_def m f
same_cumul m keep f = ap (λ (test : Shape → Bool). list_all (λ (i : Part). test i.shape) f.parts) (fun_ext (same_shape m keep))

same_window : (m : Data) (keep : List Con) (w : Window) → is_window (reduced m keep) w ≡ is_window m w
same_window m keep Always = refl
same_window m keep (Moments u v) = refl
same_window m keep (During x) = refl

same_step : (m : Data) (keep : List Con) (y : Expr-F Bool) → expr_step (reduced m keep) y ≡ expr_step m y
same_step m keep (Lit n) = refl
same_step m keep (StartOf x d) = refl
same_step m keep (EndOf x d) = refl
same_step m keep (SizeOf x d) = refl
same_step m keep (LengthOf x d) = refl
same_step m keep (PresenceOf x) = refl
same_step m keep (Neg b) = refl
same_step m keep (Sum bs) = refl
same_step m keep (Product bs) = refl
same_step m keep (Max bs) = refl
same_step m keep (Min bs) = refl
same_step m keep (Compare op b c) = refl
same_step m keep (Not b) = refl
same_step m keep (And bs) = refl
same_step m keep (Or bs) = refl
same_step m keep (Implies b c) = refl

same_hull : (m : Data) (keep : List Con) (y : Expr-F (Option Ends)) → hull_step (reduced m keep) y ≡ hull_step m y
same_hull m keep (Lit n) = refl
same_hull m keep (StartOf x d) = refl
same_hull m keep (EndOf x d) = refl
same_hull m keep (SizeOf x d) = refl
same_hull m keep (LengthOf x d) = refl
same_hull m keep (PresenceOf x) = refl
same_hull m keep (Neg r) = refl
same_hull m keep (Sum rs) = refl
same_hull m keep (Product rs) = refl
same_hull m keep (Max rs) = refl
same_hull m keep (Min rs) = refl
same_hull m keep (Compare op r s) = refl
same_hull m keep (Not r) = refl
same_hull m keep (And rs) = refl
same_hull m keep (Or rs) = refl
same_hull m keep (Implies r s) = refl

same_expr : (m : Data) (keep : List Con) (e : Expr) → is_expr (reduced m keep) e ≡ is_expr m e
same_expr m keep e =
    ap (λ (s : Expr-F Bool → Bool). fold-Expr Bool s e && is_some (hull_of (reduced m keep) e)) (fun_ext (same_step m keep))
    ∙ ap (λ (s : Expr-F (Option Ends) → Option Ends). fold-Expr Bool (expr_step m) e && is_some (fold-Expr (Option Ends) s e)) (fun_ext (same_hull m keep))

same_constraint : (m : Data) (keep : List Con) (d : Constraint) → is_constraint m d ≡ true → is_constraint (reduced m keep) d ≡ true
same_constraint m keep (Logic e) h = same_expr m keep e ∙ h
same_constraint m keep (CumulIn f w lo hi) h = rw (same_window m keep w) h
same_constraint m keep other h = h

cons_all : (test : Constraint → Bool) (o : Option Constraint) (rest : List Constraint) → ((d : Constraint) → o ≡ Some d → test d ≡ true) → list_all test rest ≡ true → list_all test (cons_option o rest) ≡ true
cons_all test None rest one others = others
cons_all test (Some d) rest one others = true_and (test d) (list_all test rest) (one d refl) others
  where
    true_and : (p q : Bool) → p ≡ true → q ≡ true → (p && q) ≡ true
    true_and true q h k = k
    true_and false q h k = cc

kept_valid : (m : Data) (keep cs : List Con) → IsValid m → list_all (is_constraint (reduced m keep)) (filter_map (λ c. slice_get m.constraints c.0) cs) ≡ true
kept_valid m keep [] valid = refl
kept_valid m keep (c ∷ cs) valid =
    cons_all (is_constraint (reduced m keep)) (slice_get m.constraints c.0) (filter_map (λ (d : Con). slice_get m.constraints d.0) cs)
    (λ d is. same_constraint m keep d (all_at (is_constraint m) m.constraints c.0 d valid.constraints is)) (kept_valid m keep cs valid)

all_cumuls : (m : Data) (keep : List Con) → list_all (is_cumul_def (reduced m keep)) m.cumuls ≡ list_all (is_cumul_def m) m.cumuls
all_cumuls m keep = ap (λ (test : CumulDef → Bool). list_all test m.cumuls) (fun_ext (same_cumul m keep))

-- no limit is passed
length_sum : {X : Type 0} (xs : List X) → sum_by (λ (x : X). 1) xs ≡ length xs
length_sum [] = refl
length_sum {X} (x ∷ xs) = one_more (sum_by (λ (y : X). 1) (x ∷ xs)) (sum_by (λ (y : X). 1) xs) (length xs) (sum_by-cons (λ (y : X). 1) x xs) (length_sum xs)
  where
    one_more : (a b c : ℕ) → a ≡ 1 + b → b ≡ c → a ≡ suc c
    one_more a b c h k = omega (arith, h, k)

limits_kept : (a b c d e f g h i j : ℕ) → i ≤ f → j ≤ h
    → (nat_le a 2000 && nat_le b 200 && nat_le c 200 && nat_le d 2000 && nat_le e 200 && nat_le f 20000 && nat_le g 1000000 && nat_le h 100000) ≡ true
    → (nat_le a 2000 && nat_le b 200 && nat_le c 200 && nat_le d 2000 && nat_le e 200 && nat_le i 20000 && nat_le g 1000000 && nat_le j 100000) ≡ true
limits_kept a b c d e f g h i j less fewer all = grind (arith, nat_tests)

by_sums : (a b c d : ℕ) → a ≤ b → a ≡ c → b ≡ d → c ≤ d
by_sums a b c d h i j = omega (arith, h, i, j)

fewer_nodes : (a b c d : ℕ) → a ≤ b → a + 0 + d ≤ b + c + d
fewer_nodes a b c d h = omega (arith, h)

pub reduced_valid : (m : Data) (keep : List Con) → IsValid m → Rises keep → IsValid (reduced m keep)
reduced_valid m keep valid rises =
    let kept : List Constraint = filter_map (λ (c : Con). slice_get m.constraints c.0) keep in
    let few : length kept ≤ length m.constraints = by_sums (sum_by (λ (d : Constraint). 1) kept) (sum_by (λ (d : Constraint). 1) m.constraints) (length kept) (length m.constraints) (fewer (λ (d : Constraint). 1) m.constraints keep rises) (length_sum kept) (length_sum m.constraints) in
    let small : node_total (reduced m keep) ≤ node_total m = fewer_nodes (sum_by nodes_of kept) (sum_by nodes_of m.constraints) (sum_by (λ o. sum_by node_count (criteria_of o)) (option_to_list m.objective)) (sum_by (λ f. length f.parts) m.cumuls) (fewer nodes_of m.constraints keep rises) in
    record {
      names = valid.names;
      intervals = valid.intervals;
      matrices = valid.matrices;
      sequences = valid.sequences;
      cumuls = all_cumuls m keep ∙ valid.cumuls;
      states = valid.states;
      constraints = kept_valid m keep keep valid;
      objective = refl;
      criteria = tt;
      limits = limits_kept (length m.intervals) (length m.sequences) (length m.matrices) (length m.cumuls) (length m.states) (length m.constraints) (cell_count m) (node_total m) (length kept) (node_total (reduced m keep)) few small valid.limits;
    }

-- a sentence is the same in the reduced model
same_sentence : (m : Data) (keep : List Con) (a : Assignment) (d : Constraint) → Holds (reduced m keep) a d → Holds m a d
same_sentence m keep a (Temporal from to equal x y z) h = h
same_sentence m keep a other h = h

kept_one : (m : Data) (a : Assignment) (c : Con) (cs : List Con) (rest : List Constraint) (o : Option Constraint) → slice_get m.constraints c.0 ≡ o → All (Holds m a) (cons_option o rest) → (All (Holds m a) rest → All (IsKept m a) cs) → All (IsKept m a) (c ∷ cs)
kept_one m a c cs rest None is h others = All-cons (IsKept m a) c cs (subst (λ (o : Option Constraint). IfSome o (Holds m a)) (sym is) tt) (others h)
kept_one m a c cs rest (Some d) is h others =
    All-cons (IsKept m a) c cs (subst (λ (o : Option Constraint). IfSome o (Holds m a)) (sym is) (All-head (Holds m a) d rest h)) (others (All-tail (Holds m a) d rest h))

kept_each : (m : Data) (a : Assignment) (cs : List Con) → All (Holds m a) (filter_map (λ c. slice_get m.constraints c.0) cs) → All (IsKept m a) cs
kept_each m a [] h = All-nil (IsKept m a)
kept_each m a (c ∷ cs) h = kept_one m a c cs (filter_map (λ d. slice_get m.constraints d.0) cs) (slice_get m.constraints c.0) refl h (kept_each m a cs)

pub reduced_meets : (m : Data) (keep : List Con) (a : Assignment) → IsSolution (reduced m keep) a → Meets m keep a
reduced_meets m keep a is = record {
  domain = is.domain;
  holds = kept_each m a keep (λ n d within. same_sentence m keep a (get_or (reduced m keep).constraints n d) (is.holds n d within));
}
