-- What names no constraint, or no arc, refutes nothing.
use Rattle.std.specs.Prelude.{◌≡◌, ℕ, ℤ, ◌+ℤ◌, false, ◌&&◌, List, [], ◌∷◌, ◌++◌, Option, Some, None, nat_eq}
use Rattle.std.proofs.Common.{refl, ap}
use Rattle.sched_model.specs.Words.{passes}
use Rattle.sched_model.specs.Data.{Data}
use Rattle.region.specs.Cells.{Region}
use Rattle.refute_basic.specs.declared.edge.Arc.{Arc as Edge}
use Rattle.refute_basic.specs.declared.arc_name.ArcName.{ArcName}
use Rattle.refute_basic.specs.Cycle.{edge_of, goes_on}
use Rattle.base_laws.specs.laws.Truth.{never_both}

-- an arc that isn't there stops the walk
stops : (m : Data) (r : Region) (begin at : ℕ) (sum : ℤ) (is js : List ArcName) (i : ArcName) → edge_of m r i ≡ None → goes_on m r begin at sum (is ++ i ∷ js) ≡ false
stops m r begin at sum [] js i none = ap (passes (λ e. nat_eq at e.tail && goes_on m r begin e.head (sum +ℤ e.weight) js)) none
stops m r begin at sum (k ∷ is) js i none = by_case (λ e. stops m r begin e.head (sum +ℤ e.weight) is js i none) (edge_of m r k)
  where
    by_case : ((e : Edge) → goes_on m r begin e.head (sum +ℤ e.weight) (is ++ i ∷ js) ≡ false) → (o : Option Edge) → passes (λ e. nat_eq at e.tail && goes_on m r begin e.head (sum +ℤ e.weight) (is ++ i ∷ js)) o ≡ false
    by_case rest None = refl
    by_case rest (Some e) = never_both (nat_eq at e.tail) (goes_on m r begin e.head (sum +ℤ e.weight) (is ++ i ∷ js)) (rest e)
