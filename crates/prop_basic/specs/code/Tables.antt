-- What propagators are made of for a model: the objective's tree, each interval, and the tree of each constraint.
use Rattle.std.specs.Prelude.{◌≡◌, ℕ, ◌<◌, List, [], length, Option, Some, None, slice_get, slice_index_or}
use Rattle.sched_base.specs.declared.ids.Itv.{Itv}
use Rattle.sched_model.specs.declared.types.Expr.{Expr}
use Rattle.sched_model.specs.declared.types.Constraint.{Constraint}
use Rattle.sched_model.specs.Data.{Data}
use Rattle.hull_tree.specs.code.Trees.{Tree, IsTreeOf}
use Rattle.prop_basic.specs.code.Tasks.{logic_of, objective_of}

pub record Table : Type 0 where
  pub objective : Option Tree
  pub intervals : List Itv
  pub trees : List (Option Tree)

-- a tree of the expression, where there is one
abbrev pub Fits : Option Expr → Option Tree → Type 0
Fits None None = Unit {0}
Fits (Some e) (Some t) = IsTreeOf e t
Fits _ _ = ⊥

abbrev pub tree_at : List (Option Tree) → ℕ → Option Tree
tree_at ts c = slice_index_or ts c None

-- the intervals that it names
abbrev pub names_in : Option Tree → List Itv
names_in None = []
names_in (Some t) = t.intervals

pub record FitEach (cs : List Constraint) (ts : List (Option Tree)) : Type 0 where
  pub size : length ts ≡ length cs
  pub each : (c : ℕ) → c < length cs → Fits (logic_of (slice_get cs c)) (tree_at ts c)

pub record AreNumbered (n : ℕ) (xs : List Itv) : Type 0 where
  pub size : length xs ≡ n
  pub each : (x : ℕ) (d : Itv) → x < n → slice_index_or xs x d ≡ record { 0 = x }

-- it is made for the model
pub record IsFor (t : Table) (m : Data) : Type 0 where
  pub objective : Fits (objective_of m.objective) t.objective
  pub intervals : AreNumbered (length m.intervals) t.intervals
  pub trees : FitEach m.constraints t.trees
