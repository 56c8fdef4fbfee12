-- Where PAIR of two members is silent, by their numbers and their order alone.
use Rattle.std.specs.Prelude.{◌≡◌, ℕ, ◌<◌, ℤ, pos, ◌+ℤ◌, Bool, true, false, not, ◌&&◌, ◌||◌, List, length, slice_index_or, Option, Some, slice_get, int_le}
use Rattle.std.specs.Int.{int_max}
use Rattle.sched_base.specs.declared.ids.Itv.{Itv}
use Rattle.sched_base.specs.declared.ids.Seq.{Seq}
use Rattle.sched_base.specs.declared.ids.Mat.{Mat}
use Rattle.sched_model.specs.declared.types.Constraint.TheVariants.{NoOverlap}
use Rattle.sched_model.specs.Data.{Data, gap}
use Rattle.region.specs.declared.types.Bounds.{Bounds}
use Rattle.region.specs.declared.types.OrderCell.{OrderCell}
use Rattle.region.specs.declared.types.OrderCell.TheVariants.{Unknown, Forward, Backward}
use Rattle.region.specs.Orders.{order_in}
use Rattle.region.specs.Cells.{Region, bounds_of, cells_of, says_present, says_absent}
use Rattle.findings.specs.declared.ends.Ends.{Ends}
use Rattle.findings.specs.code.Numbers.{ends_of}
use Rattle.refute_seq.specs.declared.witness.SeqWitness.TheVariants.{Pair}
use Rattle.prop_unary.specs.declared.disjunctive.Disjunctive.{Disjunctive}
use Rattle.prop_unary.specs.declared.keys.Front.{Front}
use Rattle.prop_unary.specs.declared.keys.Back.{Back}
use Rattle.prop_unary.specs.declared.keys.Keys.{Keys}
use Rattle.prop_unary.specs.code.Tasks.{IsSilent}
use Rattle.prop_unary.specs.code.Circles.{EachOf}

-- a constraint without overlap, by its number
abbrev pub IsDisjunctive : Data → Disjunctive → Type 0
IsDisjunctive m d = slice_get m.constraints d.c ≡ Some (NoOverlap d.p d.matrix d.direct)

-- one that stands before another isn't too late for it, under no guess on either of them
abbrev pub are_in_time : Ends → Ends → ℤ → Bool
are_in_time c d n = (not (says_present c.presence) || int_le (c.ect +ℤ n) d.lowest_start)
    && (not (says_present d.presence) || int_le (c.highest_end +ℤ n) d.lst)

-- n is the greatest distance that binds. Where the order is open only a guess on it can be refuted
abbrev pub are_silent_ends : OrderCell → Ends → Ends → ℤ → Bool
are_silent_ends Unknown c d n = int_le (c.ect +ℤ n) d.lst
are_silent_ends Forward c d n = are_in_time c d n
are_silent_ends Backward c d n = true

abbrev pub stays_in_time : Bounds → Bounds → ℤ → Bool
stays_in_time c d n = are_in_time (ends_of c) (ends_of d) n

abbrev pub is_silent_order : OrderCell → Bounds → Bounds → ℤ → Bool
is_silent_order o c d n = are_silent_ends o (ends_of c) (ends_of d) n

abbrev pub is_silent_two : OrderCell → Bounds → Bounds → ℤ → Bool
is_silent_two o c d n = says_absent c.presence || says_absent d.presence || is_silent_order o c d n

-- both where their order is open and where the first is told to stand before the second
pub record AreSilentOrders (c d : Bounds) (n : ℤ) : Type 0 where
  pub free : is_silent_two Unknown c d n ≡ true
  pub told : is_silent_two Forward c d n ≡ true

-- the keys of a member say of its numbers what is asked of one who is so present: as the first of two, and as the second
pub record IsFront (e : Ends) (k : Front) : Type 0 where
  pub ect : says_absent e.presence ≡ false → k.ect ≡ e.ect
  pub present_ect : says_present e.presence ≡ true → k.present_ect ≡ e.ect
  pub highest_end : says_absent e.presence ≡ false → k.highest_end ≡ e.highest_end

pub record IsBack (e : Ends) (k : Back) : Type 0 where
  pub lst : says_absent e.presence ≡ false → k.lst ≡ e.lst
  pub present_lst : says_present e.presence ≡ true → k.present_lst ≡ e.lst
  pub lowest_start : says_absent e.presence ≡ false → k.lowest_start ≡ e.lowest_start

abbrev pub IsKeyed : Ends → Keys → Type 0
IsKeyed e k = IsFront e k.front × IsBack e k.back

-- two are silent by their keys: where their order is open, and where the first is told to stand before the second
abbrev pub are_keys_in_time : Front → Back → ℤ → Bool
are_keys_in_time c d n = int_le (c.present_ect +ℤ n) d.lowest_start && int_le (c.highest_end +ℤ n) d.present_lst

abbrev pub are_silent_keys : OrderCell → Front → Back → ℤ → Bool
are_silent_keys Unknown c d n = int_le (c.ect +ℤ n) d.lst
are_silent_keys Forward c d n = are_keys_in_time c d n
are_silent_keys Backward c d n = true

-- the keys of the members of a list, at their places
abbrev pub AreKeyed : Region → List Itv → List Keys → Type 0
AreKeyed r xs ks = (i : ℕ) → i < length xs → (d : Keys) (e : Itv) → IsKeyed (ends_of (bounds_of r (slice_index_or xs i e))) (slice_index_or ks i d)

-- the distance of either case: 0, or what the sequence keeps
abbrev pub reach : Data → Seq → Option Mat → Itv → Itv → ℤ
reach m p matrix a b = int_max (pos 0) (gap m p matrix a b)

abbrev pub is_silent_pair : Data → Region → Disjunctive → Itv → Itv → Bool
is_silent_pair m r d a b = is_silent_two (order_in (cells_of r d.p) a b) (bounds_of r a) (bounds_of r b) (reach m d.p d.matrix a b)

-- both cases of PAIR are silent of two members, and where the order of two is as it is asked for
abbrev pub AreSilent : Data → Region → Option ℤ → Disjunctive → Itv → Itv → Type 0
AreSilent m r best d a b = (k : ℕ) → IsSilent m r best (Pair d.c a.0 b.0 k)

abbrev pub AreSilentBoth : Data → Region → Option ℤ → Disjunctive → Itv → Itv → Type 0
AreSilentBoth m r best d a b = AreSilent m r best d a b × AreSilent m r best d b a

abbrev pub AreSilentWhere : Data → Region → Option ℤ → Disjunctive → OrderCell → Itv → Itv → Type 0
AreSilentWhere m r best d o a b = order_in (cells_of r d.p) a b ≡ o → AreSilent m r best d a b

-- the same of one member and each of a list
abbrev pub SilentRow : Data → Region → Option ℤ → Disjunctive → OrderCell → List Itv → Itv → Type 0
SilentRow m r best d o xs a = EachOf (AreSilentWhere m r best d o a) xs
