-- What propagators are made of for a model: for each constraint the intervals and the sequence that it is about.
use Rattle.std.specs.Prelude.{◌≡◌, ℕ, ◌<◌, Bool, ◌&&◌, List, [], ◌∷◌, length, Option, Some, None, slice_get, slice_index_or, nat_eq}
use Rattle.std.specs.List.{list_any}
use Rattle.sched_base.specs.declared.ids.Itv.{Itv}
use Rattle.sched_base.specs.declared.ids.Seq.{Seq}
use Rattle.sched_model.specs.declared.types.Constraint.{Constraint}
use Rattle.sched_model.specs.declared.types.Constraint.TheVariants.{Span, Alternative, Synchronize, First, Last, Before, Prev}
use Rattle.sched_model.specs.Words.{is_empty}
use Rattle.sched_model.specs.Data.{Data, has, members_of}
use Rattle.region.specs.declared.types.CellName.{CellName}
use Rattle.region.specs.declared.types.CellName.TheVariants as cell
use Rattle.refute_hier.specs.SeqRel.{related_in}
use Rattle.prop_hier.specs.declared.watch.Watch.{Watch}

-- the interval of a constraint and its parts, or the members of a sequence that a relation is about
abbrev pub intervals_of : Data → Option Constraint → List Itv
intervals_of m (Some (Span a parts)) = a ∷ parts
intervals_of m (Some (Alternative a parts n)) = a ∷ parts
intervals_of m (Some (Synchronize a parts)) = a ∷ parts
intervals_of m (Some (First p a)) = members_of m p
intervals_of m (Some (Last p a)) = members_of m p
intervals_of m (Some (Before p a b)) = a ∷ b ∷ []
intervals_of m (Some (Prev p a b)) = members_of m p
intervals_of m _ = []

-- the sequence of a relation
abbrev pub listed : Option Seq → List Seq
listed (Some p) = p ∷ []
listed None = []

abbrev pub sequences_of : Option Constraint → List Seq
sequences_of (Some d) = listed (related_in d)
sequences_of None = []

abbrev pub watch_of : Data → Option Constraint → Watch
watch_of m o = record { intervals = intervals_of m o; sequences = sequences_of o }

-- the presence of one of the intervals, and where there is a sequence the orders of that, or else the bounds of the intervals
abbrev pub is_bound_of : Watch → Itv → Bool
is_bound_of w x = is_empty w.sequences && has w.intervals x

abbrev pub watches : Watch → CellName → Bool
watches w (cell.Presence x) = has w.intervals x
watches w (cell.StartMin x) = is_bound_of w x
watches w (cell.StartMax x) = is_bound_of w x
watches w (cell.EndMin x) = is_bound_of w x
watches w (cell.EndMax x) = is_bound_of w x
watches w (cell.Order p x y) = list_any (λ q. nat_eq p.0 q.0) w.sequences

-- one for each constraint
abbrev pub Table : Type 0
Table = List Watch

abbrev pub no_watch : Watch
no_watch = record { intervals = []; sequences = [] }

pub record ListEach (m : Data) (cs : List Constraint) (t : Table) : Type 0 where
  pub size : length t ≡ length cs
  pub each : (c : ℕ) → c < length cs → slice_index_or t c no_watch ≡ watch_of m (slice_get cs c)

-- it is made for the model
abbrev pub IsFor : Table → Data → Type 0
IsFor t m = ListEach m m.constraints t
