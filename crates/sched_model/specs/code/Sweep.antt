-- The distances between segments, state by state: behind which end a segment stands.
use Rattle.std.specs.Prelude.{ℕ, ℤ, ◌+ℤ◌, Bool, true, ◌||◌, if◌then◌else◌, Option, Some, None, int_le, nat_eq, nat_abs}
use Rattle.std.specs.Int.{int_max}
use Rattle.sched_model.specs.declared.types.StateDef.{StateDef}
use Rattle.sched_model.specs.declared.types.Segment.{Segment}
use Rattle.sched_model.specs.Words.{◌implies◌}
use Rattle.sched_model.specs.Data.{Data, distance}
use Rattle.sched_model.specs.Domain.{keeps_distance}

-- of every state, or of the state v
abbrev pub is_of : Bool → ℕ → Segment → Bool
is_of every v i = every || nat_eq (nat_abs i.v) v

abbrev pub keeps_from : Data → StateDef → Bool → ℕ → Segment → Segment → Bool
keeps_from m g every v i j = is_of every v i implies keeps_distance m g i j

-- the segment begins, with the distance from the state v, after this end
abbrev pub begins_after : Data → StateDef → ℕ → Option ℤ → Segment → Bool
begins_after m g v None j = true
begins_after m g v (Some q) j = int_le (q +ℤ distance m g.matrix v (nat_abs j.v)) j.p

-- the greatest end of such segments, and that with one more
abbrev pub later_end : ℤ → Option ℤ → ℤ
later_end q None = q
later_end q (Some r) = int_max r q

abbrev pub end_with : Bool → ℕ → Option ℤ → Segment → Option ℤ
end_with every v o i = if is_of every v i then Some (later_end i.q o) else o
