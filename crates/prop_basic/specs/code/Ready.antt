-- When the tree of an expression may be asked.
use Rattle.std.specs.Prelude.{IsTrue, is_some}
use Rattle.sched_model.specs.declared.types.Expr.{Expr}
use Rattle.sched_model.specs.Data.{Data}
use Rattle.sched_model.specs.Hull.{hull_of}
use Rattle.region.specs.Cells.{Region}
use Rattle.region.specs.Looks.{IsRegionOf}
use Rattle.hull_tree.specs.code.Trees.{Tree, IsTreeOf, IsEvaluated}

pub record IsReady (m : Data) (r : Region) (e : Expr) (t : Tree) : Type 0 where
  pub of : IsRegionOf m r
  pub tree : IsTreeOf e t
  pub evaluated : IsEvaluated m r t
  pub hull : IsTrue (is_some (hull_of m e))
