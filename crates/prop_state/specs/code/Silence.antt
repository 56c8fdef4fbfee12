-- Where STATE and STATE3 are silent, by the numbers of their intervals alone.
use Rattle.std.specs.Prelude.{◌≡◌, ℕ, ℤ, pos, ◌+ℤ◌, ◌-ℤ◌, ◌≤ℤ◌, Bool, false, not, ◌&&◌, ◌||◌, Some, int_lt}
use Rattle.std.specs.Int.{int_max}
use Rattle.sched_model.specs.Data.{Data, same}
use Rattle.region.specs.Cells.{Region, bounds_of, says_present, says_absent}
use Rattle.findings.specs.declared.ends.Ends.{Ends}
use Rattle.findings.specs.code.Numbers.{ends_in}
use Rattle.refute_state.specs.declared.demand.Demand.{Demand}
use Rattle.refute_state.specs.Demands.{demand_at, same_state, some_state, demand_gap}
use Rattle.prop_state.specs.declared.demands.Named.{Named}

-- the first can't end, with the distance, before the second starts: as it is told, and under some such guess
unfoldable pub is_late_in : Ends → ℤ → Ends → Bool
is_late_in c n d = int_lt d.lst (c.ect +ℤ n)

unfoldable pub may_be_late : Ends → ℤ → Ends → Bool
may_be_late c n d = int_lt d.lowest_start (c.ect +ℤ n) || int_lt d.lst (c.highest_end +ℤ n)

-- a guess tells one end of one interval: of two, or three, that may be so each but one is
unfoldable pub nearly_two : Bool → Bool → Bool
nearly_two p q = p || q

unfoldable pub nearly_three : Bool → Bool → Bool → Bool
nearly_three p q s = (p && q) || (p && s) || (q && s)

-- all may be present, and each but one is
unfoldable pub may_stand_two : Ends → Ends → Bool
may_stand_two c d = not (says_absent c.presence) && not (says_absent d.presence) && nearly_two (says_present c.presence) (says_present d.presence)

unfoldable pub may_stand_three : Ends → Ends → Ends → Bool
may_stand_three c d e = not (says_absent c.presence) && not (says_absent d.presence) && not (says_absent e.presence)
    && nearly_three (says_present c.presence) (says_present d.presence) (says_present e.presence)

-- two demands that may clash by their states, or by how they are aligned
unfoldable pub may_clash : Demand → Demand → Bool
may_clash a b = some_state a.state b.state && (not (same_state a.state b.state) || a.starts || a.ends || b.starts || b.ends)

unfoldable pub may_refute_two : Ends → ℤ → Ends → ℤ → Bool
may_refute_two c n d k = may_stand_two c d && nearly_two (is_late_in c n d) (is_late_in d k c) && may_be_late c n d && may_be_late d k c

-- the second before the first, the third before the second, the third too near behind the first
unfoldable pub may_all_be_late : Ends → Ends → Ends → ℤ → Bool
may_all_be_late c e d n = may_be_late e (pos 0) c && may_be_late d (pos 0) e && may_be_late c n d

unfoldable pub may_refute_three : Ends → Ends → Ends → ℤ → Bool
may_refute_three c e d n = may_stand_three c e d && nearly_three (is_late_in e (pos 0) c) (is_late_in d (pos 0) e) (is_late_in c n d) && may_all_be_late c e d n

-- the longest compulsory part, from the latest start to the earliest completion: as it is told, and under such a guess
abbrev pub longest_part : Ends → ℤ
longest_part e = int_max (e.highest_end -ℤ e.lst) (e.ect -ℤ e.lowest_start)

-- that of a constraint's demand is no longer than n, unless its interval is absent
abbrev pub IsCovered : Data → Region → ℤ → ℕ → Type 0
IsCovered m r n c = (d : Demand) → demand_at m c ≡ Some d → says_absent (bounds_of r d.x).presence ≡ false → longest_part (ends_in r d.x) ≤ℤ n

-- what may refute under a guess that a row lists, or as it stands; of two demands of one interval nothing is told
unfoldable pub may_refute_pair : Data → Named → Named → Bool
may_refute_pair m a b = may_clash a.demand b.demand && (same a.demand.x b.demand.x || may_refute_two a.ends (demand_gap m a.demand b.demand) b.ends (demand_gap m b.demand a.demand))

-- two of one state, and some third between them: the first can't follow the second by more than the third's compulsory part
unfoldable pub may_refute_around : Data → ℤ → Named → Named → Bool
may_refute_around m n a b = same a.demand.x b.demand.x || may_refute_two a.ends (demand_gap m a.demand b.demand) b.ends n

unfoldable pub may_refute_triple : Data → Named → Named → Named → Bool
may_refute_triple m a x b = same a.demand.x x.demand.x || same x.demand.x b.demand.x || same a.demand.x b.demand.x || may_refute_three a.ends x.ends b.ends (demand_gap m a.demand b.demand)
