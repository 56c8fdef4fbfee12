-- Nodes that stand for expressions.
use Rattle.std.specs.Prelude.{◌≡◌, ℕ, ◌<◌, true, List, length, map, Some, All, fold, drop, pos}
use Rattle.sched_base.specs.declared.ids.Itv.{Itv}
use Rattle.sched_model.specs.declared.types.Expr.{Expr}
use Rattle.sched_model.specs.Words.{all_of}
use Rattle.sched_model.specs.Data.{Data, has}
use Rattle.sched_model.specs.Valid.{IsValid}
use Rattle.sched_model.specs.Hull.{hull_of}
use Rattle.sched_model.specs.code.Names.{names_of, all_names}
use Rattle.sched_model.specs.Ranges.{Ends}
use Rattle.sched_model.specs.code.Saturated.{saturated_range}
use Rattle.region.specs.Cells.{Region}
use Rattle.region.specs.Looks.{IsRegionOf}
use Rattle.look_hull.specs.LookHull.{look_hull}
use Rattle.look_hull.specs.code.Saturated.{saturated}
use Rattle.hull_tree.specs.declared.nodes.Node.{Node}
use Rattle.hull_tree.specs.code.Nodes.{AreEnds, ends_at, node_at, named}

-- one of the nodes tells of the interval
pub record IsNamed (ns : List Node) (x : Itv) : Type 0 where
  pub at : ℕ
  pub within : at < length ns
  pub names : named (node_at ns at) ≡ Some x

-- in each region the node has the look hull of the expression, if that has a hull; and what the expression names has a node
pub record Means (m : Data) (ns : List Node) (i : ℕ) (e : Expr) : Type 0 where
  pub within : i < length ns
  pub names : (x : Itv) → has (names_of e) x ≡ true → IsNamed ns x
  pub ends : (h : Ends) → hull_of m e ≡ Some h → IsValid m → (r : Region) (hs : List Ends) → IsRegionOf m r → AreEnds m ns r (length ns) hs → ends_at hs i ≡ look_hull m r e

pub record MeanEach (m : Data) (ns : List Node) (is : List ℕ) (es : List Expr) : Type 0 where
  pub within : All (λ i. i < length ns) is
  pub size : length is ≡ length es
  pub names : (x : Itv) → has (all_names (map names_of es)) x ≡ true → IsNamed ns x
  pub ends : (xs : List Ends) → all_of (map (hull_of m) es) ≡ Some xs → IsValid m → (r : Region) (hs : List Ends) → IsRegionOf m r → AreEnds m ns r (length ns) hs → map (ends_at hs) is ≡ map (look_hull m r) es

-- a factor more
abbrev pub times_near : Ends → Ends → Ends
times_near r s = saturated_range r (saturated s)

-- the product of what the listed nodes have from place k on, and of what the node has, is that of all
pub record IsProductFrom (ns : List Node) (is : List ℕ) (k i : ℕ) : Type 0 where
  pub within : i < length ns
  pub ends : (m : Data) (r : Region) (hs : List Ends) → AreEnds m ns r (length ns) hs → fold times_near (ends_at hs i) (map (ends_at hs) (drop k is)) ≡ fold times_near (pos 1, pos 1) (map (ends_at hs) is)
