-- Where ARC is silent, by the numbers of its two intervals alone.
use Rattle.std.specs.Prelude.{ℕ, ℤ, pos, ◌+ℤ◌, ◌-ℤ◌, Bool, false, not, ◌&&◌, ◌||◌, int_le, nat_eq, if◌then◌else◌}
use Rattle.std.specs.Int.{int_max, int_min}
use Rattle.sched_model.specs.declared.types.End.{End}
use Rattle.sched_model.specs.declared.types.End.TheVariants.{Start, Finish}
use Rattle.sched_model.specs.declared.types.Constraint.{Constraint}
use Rattle.sched_model.specs.declared.types.Constraint.TheVariants.{Temporal}
use Rattle.sched_model.specs.Data.{same}
use Rattle.region.specs.declared.types.Bounds.{Bounds}
use Rattle.region.specs.Cells.{Region, bounds_of, says_present}

-- the least and the greatest moment of a point
abbrev pub earliest_in : End → Bounds → ℤ
earliest_in Start c = c.smin
earliest_in Finish c = int_max c.emin (c.smin +ℤ c.pmin)

abbrev pub latest_in : End → Bounds → ℤ
latest_in Start c = int_min c.smax (c.emax -ℤ c.pmin)
latest_in Finish c = c.emax

-- the greatest and the least that these can become by a guess at the end of a cell
abbrev pub highest_in : End → Bounds → ℤ
highest_in Start c = int_max c.smin c.smax
highest_in Finish c = int_max (int_max c.emin c.emax) (int_max c.smin c.smax +ℤ c.pmin)

abbrev pub lowest_in : End → Bounds → ℤ
lowest_in Start c = int_min (int_min c.smin c.smax) (int_min c.emin c.emax -ℤ c.pmin)
lowest_in Finish c = int_min c.emin c.emax

-- the first point, moved on by z, is not too late for the second, under no guess on either interval
abbrev pub is_in_time : Bounds → End → Bounds → End → ℤ → Bool
is_in_time c from d to z = (not (says_present c.presence) || int_le (earliest_in from c +ℤ z) (lowest_in to d))
    && (not (says_present d.presence) || int_le (highest_in from c +ℤ z) (latest_in to d))

-- the two ways of a precedence between two intervals
abbrev pub is_silent_way : Region → ℕ → Constraint → Bool
is_silent_way r d (Temporal from to equal a b z) = not (same a b)
    && (if nat_eq d 0 then is_in_time (bounds_of r a) from (bounds_of r b) to z else nat_eq d 1 && (not equal || is_in_time (bounds_of r b) to (bounds_of r a) from (pos 0 -ℤ z)))
is_silent_way r d _ = false
