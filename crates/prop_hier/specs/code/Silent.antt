-- Where no guess on a part is refuted, by its numbers and those of its interval.
use Rattle.std.specs.Prelude.{ℤ, pos, ◌+ℤ◌, Bool, true, false, ◌&&◌, ◌||◌, int_le, int_lt, nat_lt}
use Rattle.region.specs.declared.types.Presence.{Presence}
use Rattle.region.specs.declared.types.Presence.TheVariants.{Absent, Present, Maybe}
use Rattle.region.specs.declared.types.Bounds.{Bounds}
use Rattle.region.specs.Cells.{says_present}
use Rattle.region.specs.Looks.{lst_in, ect_in}
use Rattle.findings.specs.declared.ends.Ends.{Ends}
use Rattle.findings.specs.code.Numbers.{ends_of}
use Rattle.refute_hier.specs.declared.family.Kind.{Kind}
use Rattle.refute_hier.specs.declared.family.Kind.TheVariants.{Span, Alternative, Synchronize}
use Rattle.prop_hier.specs.declared.counts.Counts.{Counts}

-- no guess on a part lets it start before its interval, or end after it
abbrev pub is_within : Bounds → Ends → Bool
is_within a e = int_le a.smin e.lowest_start && int_le e.highest_end a.emax

-- others may start and end with their interval
abbrev pub has_others : Presence → Counts → Bool
has_others Absent n = false
has_others Present n = nat_lt 1 n.may_start && nat_lt 1 n.may_end
has_others Maybe n = true

-- no guess on a part makes its starts or its ends others than those of its interval
abbrev pub starts_match : Bounds → Bounds → Bool
starts_match a b = int_le a.smin b.smin && int_le b.smin b.smax && int_le b.smax (lst_in a)

abbrev pub ends_match : Bounds → Bounds → Bool
ends_match a b = int_le (ect_in a) b.emin && int_le b.emin b.emax && int_le b.emax a.emax

abbrev pub lasts : Bounds → Bool
lasts b = int_le (b.smin +ℤ b.pmin) b.emin && int_le (b.smax +ℤ b.pmin) b.emax

abbrev pub always_matches : Bounds → Bounds → Bool
always_matches a b = starts_match a b && ends_match a b && lasts b

-- whatever is guessed of the part, no more are present than the count
abbrev pub leaves_room : ℤ → Presence → Counts → Bool
leaves_room count part n = (says_present part && nat_lt 0 n.there) || int_lt (pos n.there) count

-- and no fewer may match the interval
abbrev pub has_another : ℤ → Presence → Presence → Counts → Bool
has_another count Absent part n = false
has_another count Present part n = leaves_room count part n && int_lt count (pos n.may_match)
has_another count Maybe part n = leaves_room count part n

abbrev pub is_silent : Kind → Bounds → Bounds → Counts → Bool
is_silent Span a b n = has_others a.presence n && is_within a (ends_of b)
is_silent (Alternative count) a b n = has_another count a.presence b.presence n && always_matches a b
is_silent Synchronize a b n = always_matches a b
