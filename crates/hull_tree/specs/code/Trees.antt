-- What it is to be the tree of an expression, and to be evaluated in a region.
use Rattle.std.specs.Prelude.{◌≡◌, ℕ, ◌<◌, List, length, IsTrue}
use Rattle.sched_base.specs.declared.ids.Itv.{Itv}
use Rattle.sched_model.specs.declared.types.Expr.{Expr}
use Rattle.sched_model.specs.Data.{Data, has}
use Rattle.sched_model.specs.code.Names.{names_of}
use Rattle.sched_model.specs.Ranges.{Ends}
use Rattle.region.specs.declared.types.Topic.{Topic}
use Rattle.region.specs.declared.types.Topic.TheVariants.{One, Two}
use Rattle.region.specs.Cells.{Region}
use Rattle.hull_tree.specs.declared.atoms.Atom.{Atom}
use Rattle.hull_tree.specs.declared.nodes.Node.{Node}
use Rattle.hull_tree.specs.declared.nodes.Span.{Span}
use Rattle.hull_tree.specs.code.Nodes.{AreNodes, AreEnds, ends_at}
use Rattle.hull_tree.specs.code.Meaning.{Means}
use Rattle.hull_tree.specs.code.Atoms.{AreAtoms}

-- nodes with a range for each
pub record Tree : Type 0 where
  pub nodes : List Node
  pub root : ℕ
  pub intervals : List Itv
  pub ends : List Ends

-- the tree is made of the expression: its root stands for it in each region of each model, and what it names is listed
pub record IsTreeOf (e : Expr) (t : Tree) : Type 0 where
  pub means : (m : Data) → Means m t.nodes t.root e
  pub names : (x : Itv) → IsTrue (has (names_of e) x) → IsTrue (has t.intervals x)

-- the ranges are those in the region
abbrev pub IsEvaluated : Data → Region → Tree → Type 0
IsEvaluated m r t = AreEnds m t.nodes r (length t.nodes) t.ends

-- the two intervals whose bounds a guess changes
abbrev pub changed : Topic → Itv × Itv
changed (One x c) = (x, x)
changed (Two p x y) = (x, y)

-- the root has this range in the region
pub record IsRootRange (m : Data) (t : Tree) (r : Region) (e : Ends) : Type 0 where
  pub ranges : List Ends
  pub are : AreEnds m t.nodes r (length t.nodes) ranges
  pub is : e ≡ ends_at ranges t.root

pub record IsTree (ns : List Node) (ss : List Span) (root : ℕ) (ats : List Atom) (hs : List Ends) : Type 0 where
  pub nodes : AreNodes ns ss
  pub within : root < length ns
  pub atoms : AreAtoms ns ats
  pub size : length hs ≡ length ns
