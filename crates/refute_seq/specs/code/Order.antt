-- The orders that a settled region leaves.
use Rattle.std.specs.Prelude.{Bool, List, [], ◌∷◌, map, if◌then◌else◌}
use Rattle.std.specs.List.{filter}
use Rattle.sched_base.specs.declared.ids.Itv.{Itv}
use Rattle.region.specs.Orders.{SequenceCells, is_before}
use Rattle.region.specs.Cells.{Region, is_there}

-- a member takes its place in front of the first that it stands before
abbrev pub placed : (Itv → Itv → Bool) → Itv → List Itv → List Itv
placed before x [] = x ∷ []
placed before x (y ∷ ys) = if before x y then x ∷ y ∷ ys else y ∷ placed before x ys

-- members that take their places one after the other, among some that have theirs
abbrev pub ordered_from : (Itv → Itv → Bool) → List Itv → List Itv → List Itv
ordered_from before xs [] = xs
ordered_from before xs (y ∷ ys) = ordered_from before (placed before y xs) ys

-- the present members of a sequence, as they are told to stand
abbrev pub settled_order : Region → SequenceCells → List Itv
settled_order r s = ordered_from (is_before s) [] (filter (is_there r) s.members)

abbrev pub settled_orders : Region → List (List Itv)
settled_orders r = map (settled_order r) r.orders
