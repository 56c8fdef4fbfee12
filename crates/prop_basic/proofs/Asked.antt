-- What the tree of an expression tells of a witness.
use Rattle.std.specs.Prelude.{◌≡◌, ℕ, zero, suc, ◌+◌, ◌-◌, ◌<◌, ◌≤◌, length, ℤ, Bool, true, ◌&&◌, List, [], Option, Some, None, IfSome, IfNone, slice_get}
use Rattle.std.proofs.Common.{refl, sym, ap, subst, ◌∙◌, arith}
use Rattle.sched_base.specs.declared.ids.Itv.{Itv}
use Rattle.sched_model.specs.declared.types.Constraint.TheVariants.{Logic}
use Rattle.sched_model.specs.declared.types.Expr.{Expr}
use Rattle.sched_model.specs.declared.types.Objective.{Objective}
use Rattle.sched_model.specs.Words.{passes}
use Rattle.sched_model.specs.Data.{Data, has}
use Rattle.region.specs.declared.types.Guess.{Guess}
use Rattle.region.specs.Cells.{Region}
use Rattle.region.specs.Guesses.{looked_at}
use Rattle.region.specs.Looks.{IsRegionOf, seen_at}
use Rattle.look_hull.specs.LookHull.{look_hull}
use Rattle.findings.specs.code.Reads.{LooksOnlyAt, AreUnrefuted}
use Rattle.hull_tree.specs.code.Trees.{Tree, IsTreeOf}
use Rattle.refute_basic.specs.declared.witness.BasicWitness.{BasicWitness}
use Rattle.refute_basic.specs.declared.witness.BasicWitness.TheVariants as basic
use Rattle.refute_basic.specs.Expr.{is_never_true, expr_row}
use Rattle.refute_basic.specs.Obj.{never_beats}
use Rattle.refute_basic.specs.Basic.{refutes}
use Rattle.refute_basic.specs.laws.Hulls.{logic_names, objective_names}
use Rattle.prop_basic.specs.declared.hulls.Goal.TheVariants.{Holds, Beats}
use Rattle.prop_basic.specs.code.Goals.{misses}
use Rattle.prop_basic.specs.code.Tables.{Fits}
use Rattle.prop_basic.specs.code.Tasks.{size_of, quiet, witness_at, IsSilent}
use Rattle.prop_basic.specs.laws.Owners.{quiet_from, silent_from, size_at, expr_at, is_below}
use Rattle.prop_basic.specs.laws.Silent.{AsksAll, unrefuted_from, silent_on}
use Rattle.sched_model.specs.Bounds.{is_number}

-- two tests that say the same
abbrev pub Same : (Option Guess → Bool) → (Option Guess → Bool) → Type 0
Same p q = (guess : Option Guess) → p guess ≡ q guess

unrefuted_same : (p q : Option Guess → Bool) (r : Region) (xs : List Itv) → Same p q → AreUnrefuted p r xs [] → AreUnrefuted q r xs []
unrefuted_same p q r xs same none guess asked = sym (same guess) ∙ none guess asked

turned : (p q : Option Guess → Bool) → Same p q → Same q p
turned p q same guess = sym (same guess)

-- EXPR and OBJ by what the expression misses
abbrev pub row : Data → Region → Option ℤ → BasicWitness → Option Guess → Bool
row m r best w guess = refutes m (seen_at r best guess) w

pub expr_same : (m : Data) (r : Region) (best : Option ℤ) (c : ℕ) (e : Expr) → is_number c ≡ true → slice_get m.constraints c ≡ Some (Logic e) → Same (misses m r e Holds) (row m r best (basic.Expr c))
expr_same m r best c e number is guess = sym (ap (λ b. b && expr_row m (seen_at r best guess) c) number ∙ ap (passes (is_never_true m (looked_at guess r))) is)

pub obj_same : (m : Data) (r : Region) (best b : ℤ) (o : Objective) → b ≡ best → m.objective ≡ Some o → Same (misses m r o.expr (Beats o.sense b)) (row m r (Some best) basic.Obj)
obj_same m r best b o same is guess = ap (λ z. never_beats o.sense z (look_hull m (looked_at guess r) o.expr)) same ∙ sym (ap (passes (λ p. never_beats p.sense best (look_hull m (looked_at guess r) p.expr))) is)

-- from the answer of a tree to that of a witness
pub tree_silent : (m : Data) (r : Region) (best : Option ℤ) (w : BasicWitness) (p : Option Guess → Bool) (xs : List Itv) (uses : Bool) → Same p (row m r best w) → AsksAll m w → LooksOnlyAt refutes m w (record { intervals = xs; pairs = []; best = uses }) → IsRegionOf m r
    → AreUnrefuted p r xs [] → IsSilent m r best w
tree_silent m r best w p xs uses same all looks of none = silent_on m r best w xs uses all looks of (unrefuted_same p (row m r best w) r xs same none)

pub tree_busy : (m : Data) (r : Region) (best : Option ℤ) (w : BasicWitness) (p : Option Guess → Bool) (xs : List Itv) → Same p (row m r best w) → AsksAll m w → (AreUnrefuted p r xs [] → ⊥) → IsSilent m r best w → ⊥
tree_busy m r best w p xs same all busy silent = busy (unrefuted_same (row m r best w) p r xs (turned p (row m r best w) same) (unrefuted_from m r best w xs all silent))

-- what the tree of the expression names
pub covers_expr : (m : Data) (c : ℕ) (e : Expr) (t : Tree) → slice_get m.constraints c ≡ Some (Logic e) → IsTreeOf e t → (x : Itv) → has (logic_names (slice_get m.constraints c)) x ≡ true → has t.intervals x ≡ true
covers_expr m c e t is tree x here = tree.names x (ap (λ o. has (logic_names o) x) (sym is) ∙ here)

pub covers_obj : (m : Data) (o : Objective) (t : Tree) → m.objective ≡ Some o → IsTreeOf o.expr t → (x : Itv) → has (objective_names m.objective) x ≡ true → has t.intervals x ≡ true
covers_obj m o t is tree x here = tree.names x (ap (λ p. has (objective_names p) x) (sym is) ∙ here)

-- the two cases of an answer
pub none_by : {X : Type 0} {P Q : Type 0} (o : Option X) → (P → Q) → IfNone o P → IfNone o Q
none_by None f p = f p
none_by (Some x) f p = tt

pub some_by : {X : Type 0} {P Q : X → Type 0} (o : Option X) → ((x : X) → P x → Q x) → IfSome o P → IfSome o Q
some_by None f p = tt
some_by (Some x) f p = f x p

pub none_is : {X : Type 0} {P : Type 0} (o : Option X) → P → IfNone o P
none_is None p = p
none_is (Some x) p = tt

pub fits_some : (o : Option Expr) (t : Option Tree) (e : Expr) (u : Tree) → o ≡ Some e → t ≡ Some u → Fits o t → IsTreeOf e u
fits_some o t e u is at fits = subst (λ p. Fits p (Some u)) is (subst (Fits o) at fits)

-- the witness of a propagator
pub none_at : (m : Data) (k : ℕ) (r : Region) (best : Option ℤ) (w : BasicWitness) → w ≡ witness_at m k → IsSilent m r best w → quiet m k r best
none_at m k r best w is silent = quiet_from m k r best (subst (IsSilent m r best) is silent)

pub busy_at : (m : Data) (k : ℕ) (r : Region) (best : Option ℤ) (w : BasicWitness) → w ≡ witness_at m k → k < size_of m → (IsSilent m r best w → ⊥) → quiet m k r best → ⊥
busy_at m k r best w is within busy still = busy (subst (IsSilent m r best) (sym is) (silent_from m k r best within still))

pub obj_is : (m : Data) (k : ℕ) → k ≡ 0 → basic.Obj ≡ witness_at m k
obj_is m k is = ap (witness_at m) (sym is)

pub size_is : (m : Data) (k n : ℕ) → (k ≡ 0 → ⊥) → n ≡ length m.intervals → k ≤ n → basic.Size (k - 1) ≡ witness_at m k
size_is m zero n some is within = absurd (some refl)
size_is m (suc i) n some is within = ap basic.Size (less i) ∙ sym (size_at m i (is_below i (length m.intervals) (omega (arith, is, within))))
  where
    less : (i : ℕ) → suc i - 1 ≡ i
    less i = omega arith

pub expr_is : (m : Data) (k n : ℕ) → (k ≡ 0 → ⊥) → n ≡ length m.intervals → n < k → basic.Expr (k - 1 - n) ≡ witness_at m k
expr_is m k n some is past =
    let at : suc (length m.intervals + (k - 1 - n)) ≡ k = omega (arith, is, past) in
    sym (ap (witness_at m) (sym at) ∙ expr_at m (k - 1 - n))
