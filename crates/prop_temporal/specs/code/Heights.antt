-- Heights of points, as they are kept and with the two points of one interval set.
use Rattle.std.specs.Prelude.{◌≡◌, ◌⊎◌, ℕ, ◌+◌, ◌*◌, ◌<◌, ℤ, pos, ◌+ℤ◌, ◌≤ℤ◌, Bool, true, false, not, ◌&&◌, ◌||◌, List, [], length, get_or, Option, Some, slice_get, nat_eq, int_lt, if◌then◌else◌}
use Rattle.std.specs.List.{list_any}
use Rattle.sched_base.specs.declared.ids.Itv.{Itv}
use Rattle.sched_model.specs.declared.types.Constraint.{Constraint}
use Rattle.sched_model.specs.declared.types.Constraint.TheVariants.{Temporal}
use Rattle.sched_model.specs.Data.{Data, has}
use Rattle.region.specs.declared.types.OrderCell.{OrderCell}
use Rattle.region.specs.declared.types.OrderCell.TheVariants.{Unknown, Forward, Backward}
use Rattle.region.specs.Cells.{Region, is_there}
use Rattle.cycles.specs.code.Walks.{arc_at}
use Rattle.refute_basic.specs.declared.edge.Arc.{Arc as Edge}
use Rattle.refute_basic.specs.declared.arc_name.ArcName.{ArcName}
use Rattle.refute_basic.specs.Cycle.{point, edge_of}
use Rattle.prop_temporal.specs.code.Members.{touched_by}
use Rattle.refute_basic.specs.laws.Walks.{AllLose}
use Rattle.prop_temporal.specs.code.Shown.{OfConstraint, OfOne}

abbrev pub height_in : List ℤ → ℕ → ℤ
height_in hs p = get_or hs p (pos 0)

abbrev pub height_with : List ℤ → ℕ → ℤ → ℤ → ℕ → ℤ
height_with hs x start end p = if nat_eq p (2 * x) then start else if nat_eq p (2 * x + 1) then end else height_in hs p

-- along each of these arcs the height falls by its weight at least
abbrev pub AllKeep : (ℕ → ℤ) → List Edge → Type 0
AllKeep h arcs = (k : ℕ) → k < length arcs → ((arc_at arcs k).weight +ℤ h (arc_at arcs k).head) ≤ℤ h (arc_at arcs k).tail

-- the constraints between whose intervals each interval is
abbrev pub is_touched : List (List ℕ) → ℕ → ℕ → Bool
is_touched ts x c = list_any (λ k. nat_eq c k) (get_or ts x [])

pub record AreTouched (m : Data) (ts : List (List ℕ)) : Type 0 where
  pub size : length ts ≡ length m.intervals
  pub each : (x : Itv) (c : ℕ) → x.0 < length m.intervals → has (touched_by m (slice_get m.constraints c)) x ≡ true → is_touched ts x.0 c ≡ true

-- the names of the arcs of one interval
abbrev pub IsOwn : ℕ → List ℕ → ArcName → Type 0
IsOwn x cs i = (OfOne x i × (list_any (λ k. nat_eq i.x k) cs ≡ true)) ⊎ ((OfConstraint i → ⊥) × (i.x ≡ x))

-- along each of them the height falls
pub record OwnKeep (m : Data) (r : Region) (x : ℕ) (cs : List ℕ) (hs : List ℤ) : Type 0 where
  pub start : ℤ
  pub end : ℤ
  pub keep : (i : ArcName) (e : Edge) → IsOwn x cs i → edge_of m r i ≡ Some e → (e.weight +ℤ height_with hs x start end e.head) ≤ℤ height_with hs x start end e.tail

-- along the arc of this name, if the region shows it, the height falls by its weight at least
abbrev pub Falls : Data → Region → (ℕ → ℤ) → ArcName → Type 0
Falls m r h i = (e : Edge) → edge_of m r i ≡ Some e → (e.weight +ℤ h e.head) ≤ℤ h e.tail

-- along the arcs of a precedence the height falls whoever is present, or one of its intervals isn't; another constraint has none
abbrev pub keeps_precedence : Region → (ℕ → ℤ) → Option Constraint → Bool
keeps_precedence r h (Some (Temporal from to equal a b z)) =
    (not (int_lt (h (point from a)) (z +ℤ h (point to b))) && (not equal || not (int_lt (z +ℤ h (point to b)) (h (point from a))))) || not (is_there r a && is_there r b)
keeps_precedence r h _ = true

-- an order is told along whose arc the height doesn't fall: forth or back it does, if these are true
abbrev pub breaks : OrderCell → Bool → Bool → Bool
breaks Unknown forth back = false
breaks Forward forth back = not forth
breaks Backward forth back = not back

-- along each arc of a kind
abbrev pub FallsAlong : Data → Region → (ℕ → ℤ) → (ArcName → Type 0) → Type 0
FallsAlong m r h kind = (i : ArcName) → kind i → Falls m r h i

-- heights, and whether these are known to fall along all arcs between present intervals
pub record Kept : Type 0 where
  pub heights : List ℤ
  pub held : Bool

pub record IsReady (m : Data) (r : Region) (w : Kept) : Type 0 where
  pub size : length w.heights ≡ 2 * length r.bounds
  pub keep : w.held ≡ true → AllLose m r (height_in w.heights)
