-- The expressions that a statement holds.
use Rattle.std.proofs.Common.{◌≡◌, ◌<◌, Bool, true, false, ◌&&◌, if◌then◌else◌, List, [], ◌∷◌, map, length, Option, Some, None, option_to_list, is_none, is_some, refl, sym, ap, ◌∙◌, arith}
use Rattle.sched_model.specs.Words.{all_of}
use Rattle.sched_model.specs.Data.{Data, with_constraint, with_objective}
use Rattle.sched_model.specs.Hull.{hull_of}
use Rattle.sched_model.specs.Rank.{rank_of, rank_within}
use Rattle.sched_model.specs.declared.types.Expr.{Expr}
use Rattle.sched_model.specs.declared.types.Objective.{Objective}
use Rattle.sched_model.specs.declared.types.Constraint.TheVariants as constraint
use Rattle.cpo_text.specs.declared.expression.Logic.{Logic}
use Rattle.cpo_text.specs.declared.tree.Constrained.{Constrained}
use Rattle.cpo_text.specs.declared.tree.Constrained.TheVariants.{Between, Parts, Alternative, NoOverlap, Extreme, Ordered, Bounded, AlwaysIn, AlwaysEqual, AlwaysNoState, Holds}
use Rattle.cpo_text.specs.declared.tree.Sense.{Sense}
use Rattle.cpo_text.specs.declared.tree.Statement.{Statement}
use Rattle.cpo_text.specs.declared.tree.Statement.TheVariants.{Empty, Define, Constrain, Forbid, Aim, Rank}
use Rattle.cpo_elab.specs.declared.holding.Written.{Written}
use Rattle.cpo_elab.specs.declared.holding.Written.TheVariants.{Nothing, One, Several}
use Rattle.cpo_elab.specs.Held.{logic_held, logics_in, criteria_in}
use Rattle.cpo_elab.specs.Elaborated.{sense_of, expr_of, constraint_of, with_written, objective_of, after}
use Rattle.cpo_elab.specs.Judged.{lacks_hull, has_no_hull}
use Rattle.cpo_elab.specs.Shaped.{is_shaped}
use Rattle.cpo_elab.specs.code.Judging.{written_of, written_in}

-- what the expressions are of which something is written

pub none_written : (m : Data) (es : List Expr) → Nothing ≡ written_of m es → es ≡ []
none_written m [] h = refl
none_written m (e ∷ []) h = cc
none_written m (d ∷ e ∷ es) h = cc

pub one_written : (m : Data) (es : List Expr) (e : Expr) → One e ≡ written_of m es → es ≡ e ∷ []
one_written m [] e h = cc
one_written m (d ∷ []) e h = let is : e ≡ d = cc in ap (λ x. x ∷ []) (sym is)
one_written m (c ∷ d ∷ es) e h = cc

abbrev pub IsSeveral : Data → List Expr → List Expr → Option Expr → Type 0
IsSeveral m es criteria rank = (criteria ≡ es) × (rank ≡ rank_within m es) × (lacks_hull m es ≡ is_none (rank_within m es)) × ((s : Sense) → objective_of m s es ≡ record { sense = sense_of s; expr = rank_of m es; criteria = es })

pub several_written : (m : Data) (es criteria : List Expr) (rank : Option Expr) → Several criteria rank ≡ written_of m es → IsSeveral m es criteria rank
several_written m [] criteria rank h = cc
several_written m (e ∷ []) criteria rank h = cc
several_written m (d ∷ e ∷ es) criteria rank h =
    let first : criteria ≡ d ∷ e ∷ es = cc in
    let second : rank ≡ rank_within m (d ∷ e ∷ es) = cc in
    (first, second, refl, λ s. refl)

-- number 13

pub nothing_lacks : (m : Data) (es : List Expr) (w : Written) → w ≡ Nothing → w ≡ written_of m es → false ≡ lacks_hull m es
nothing_lacks m es w is h = sym (ap (lacks_hull m) (none_written m es (sym is ∙ h)))

pub one_lacks : (m : Data) (es : List Expr) (w : Written) (e : Expr) (b : Bool) → w ≡ One e → w ≡ written_of m es → b ≡ is_none (hull_of m e) → b ≡ lacks_hull m es
one_lacks m es w e b is h none = none ∙ sym (ap (lacks_hull m) (one_written m es e (sym is ∙ h)))

pub several_lack : (m : Data) (es : List Expr) (w : Written) (criteria : List Expr) (rank : Option Expr) (b : Bool) → w ≡ Several criteria rank → w ≡ written_of m es → b ≡ is_none rank → b ≡ lacks_hull m es
several_lack m es w criteria rank b is h none = let s = several_written m es criteria rank (sym is ∙ h) in none ∙ ap is_none s.1 ∙ sym s.2

-- a statement that holds none

no_logics : (m : Data) (es : List Logic) → map (expr_of m) es ≡ [] → es ≡ []
no_logics m [] h = refl
no_logics m (e ∷ es) h = cc

pub holds_none : (m : Data) (s : Statement) (w : Written) → w ≡ Nothing → w ≡ written_in m s → logics_in s ≡ []
holds_none m s w is h = no_logics m (logics_in s) (none_written m (map (expr_of m) (logics_in s)) (sym is ∙ h))

none_listed : {X : Type 0} (o : Option X) → option_to_list o ≡ [] → o ≡ None
none_listed None h = refl
none_listed (Some x) h = cc

pub plain_constraint : (s : Statement) (c : Constrained) → s ≡ Constrain c → logics_in s ≡ [] → logic_held c ≡ None
plain_constraint s c is none = none_listed (logic_held c) (sym (ap logics_in is) ∙ none)

-- an objective holds some
pub some_criteria : (s : Statement) (sense : Sense) (es : List Logic) → s ≡ Rank sense es → is_shaped s ≡ true → logics_in s ≡ [] → true ≡ false
some_criteria s sense es is shaped none = sym (by es (sym (ap logics_in is) ∙ none) (sym (ap is_shaped is) ∙ shaped))
  where
    by : (xs : List Logic) → xs ≡ [] → is_shaped (Rank sense xs) ≡ true → false ≡ true
    by [] empty shaped = shaped
    by (x ∷ xs) empty shaped = cc

-- one alone

pub one_held : (m : Data) (s : Statement) (e : Expr) (w : Written) → w ≡ One e → w ≡ written_in m s → map (expr_of m) (logics_in s) ≡ e ∷ []
one_held m s e w is h = one_written m (map (expr_of m) (logics_in s)) e (sym is ∙ h)

held_by : (m : Data) (c : Constrained) (e : Expr) → map (expr_of m) (option_to_list (logic_held c)) ≡ e ∷ [] → with_constraint (constraint_of m c) (with_written m c) ≡ with_constraint (constraint.Logic e) m
held_by m (Holds l) e h = let is : expr_of m l ≡ e = cc in ap (λ x. with_constraint (constraint.Logic x) m) is
held_by m (Between t a b z) e h = cc
held_by m (Parts k a ns) e h = cc
held_by m (Alternative a ns n) e h = cc
held_by m (NoOverlap p s) e h = cc
held_by m (Extreme k p a) e h = cc
held_by m (Ordered o p a b) e h = cc
held_by m (Bounded f b i) e h = cc
held_by m (AlwaysIn f w lo hi) e h = cc
held_by m (AlwaysEqual g a v aligned) e h = cc
held_by m (AlwaysNoState g a) e h = cc

pub one_constraint : (m : Data) (s : Statement) (c : Constrained) (e : Expr) → s ≡ Constrain c → map (expr_of m) (logics_in s) ≡ e ∷ [] → after m s ≡ with_constraint (constraint.Logic e) m
one_constraint m s c e is h = ap (after m) is ∙ held_by m c e (sym (ap (λ t. map (expr_of m) (logics_in t)) is) ∙ h)

pub one_aim : (m : Data) (s : Statement) (sense : Sense) (l : Logic) (e : Expr) → s ≡ Aim sense l → map (expr_of m) (logics_in s) ≡ e ∷ [] → after m s ≡ with_objective (objective_of m sense (e ∷ [])) m
one_aim m s sense l e is h = ap (after m) is ∙ ap (λ xs. with_objective (objective_of m sense xs) m) (sym (ap (λ t. map (expr_of m) (logics_in t)) is) ∙ h)

pub one_criterion : (m : Data) (s : Statement) (sense : Sense) (es : List Logic) (e : Expr) → s ≡ Rank sense es → map (expr_of m) (logics_in s) ≡ e ∷ [] → after m s ≡ with_objective (objective_of m sense (e ∷ [])) m
one_criterion m s sense es e is h = ap (after m) is ∙ ap (λ xs. with_objective (objective_of m sense xs) m) (sym (ap (λ t. map (expr_of m) (logics_in t)) is) ∙ h)

-- several

rank_there : (m : Data) (es : List Expr) (e : Expr) → Some e ≡ rank_within m es → e ≡ rank_of m es
rank_there m es e h = by (is_some (all_of (map (hull_of m) es)) && is_some (hull_of m (rank_of m es))) h
  where
    by : (b : Bool) → Some e ≡ (if b then Some (rank_of m es) else None) → e ≡ rank_of m es
    by true h = cc
    by false h = cc

pub rank_some : (m : Data) (s : Statement) (criteria : List Expr) (rank : Option Expr) → written_in m s ≡ Several criteria rank → has_no_hull m s ≡ false → is_none rank ≡ false
rank_some m s criteria rank h hull =
    let p = several_written m (map (expr_of m) (logics_in s)) criteria rank (sym h) in
    ap is_none p.1 ∙ sym p.2 ∙ hull

pub many_criteria : (m : Data) (s : Statement) (criteria : List Expr) (rank : Option Expr) → written_in m s ≡ Several criteria rank → 1 < length (criteria_in s)
many_criteria m Empty criteria rank h = cc
many_criteria m (Define n d) criteria rank h = cc
many_criteria m (Forbid w a f) criteria rank h = cc
many_criteria m (Aim sense e) criteria rank h = cc
many_criteria m (Rank sense []) criteria rank h = cc
many_criteria m (Rank sense (e ∷ [])) criteria rank h = cc
many_criteria m (Rank sense (d ∷ e ∷ es)) criteria rank h = omega arith
many_criteria m (Constrain c) criteria rank h = absurd (by (logic_held c) h)
  where
    by : (o : Option Logic) → written_of m (map (expr_of m) (option_to_list o)) ≡ Several criteria rank → ⊥
    by None h = cc
    by (Some e) h = cc

pub several_aim : (m : Data) (s : Statement) (sense : Sense) (es : List Logic) (criteria : List Expr) (rank : Option Expr) (e : Expr) → s ≡ Rank sense es → written_in m s ≡ Several criteria rank → rank ≡ Some e
    → after m s ≡ with_objective (record { sense = sense_of sense; expr = e; criteria = criteria }) m
several_aim m s sense es criteria rank e is h some =
    let held : written_of m (map (expr_of m) es) ≡ Several criteria rank = sym (ap (written_in m) is) ∙ h in
    let p = several_written m (map (expr_of m) es) criteria rank (sym held) in
    let weighed : e ≡ rank_of m (map (expr_of m) es) = rank_there m (map (expr_of m) es) e (sym some ∙ p.1) in
    ap (after m) is ∙ ap (λ (o : Objective). with_objective o m) (p.3 sense ∙ (λ i. record { sense = sense_of sense; expr = sym weighed i; criteria = sym p.0 i }))
