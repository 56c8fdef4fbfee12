-- Constraints on an interval and its parts, and whether one of their rows refutes a region.
use Rattle.std.specs.Prelude.{◌≡◌, ℕ, ◌<◌, Bool, true, false, not, ◌||◌, IsTrue, List, nat_lt}
use Rattle.sched_base.specs.declared.ids.Itv.{Itv}
use Rattle.sched_model.specs.declared.types.Constraint.{Constraint}
use Rattle.sched_model.specs.declared.types.Constraint.TheVariants as constraint
use Rattle.region.specs.declared.types.Presence.{Presence}
use Rattle.region.specs.declared.types.Presence.TheVariants.{Absent, Present, Maybe}
use Rattle.region.specs.Cells.{Region, bounds_of}
use Rattle.refute_hier.specs.declared.parts.Role.TheVariants.{IsThere, StartsBefore, EndsAfter, Clashes, MayStart, MayEnd}
use Rattle.refute_hier.specs.declared.witness.HierWitness.{HierWitness}
use Rattle.refute_hier.specs.declared.witness.HierWitness.TheVariants as witness
use Rattle.refute_hier.specs.Witness.{is_valid, constraint_of}
use Rattle.refute_hier.specs.Parts.{at_part, some_part, part_count}
use Rattle.refute_hier.specs.Span.{span_case}
use Rattle.refute_hier.specs.Alt.{is_crowded, is_short, alt_case}
use Rattle.refute_hier.specs.Sync.{sync_case}
use Rattle.refute_hier.specs.declared.family.Kind.{Kind}
use Rattle.refute_hier.specs.declared.family.Kind.TheVariants.{Span, Alternative, Synchronize}

-- the constraint of a kind on an interval and its parts
abbrev pub as_constraint : Kind → Itv → List Itv → Constraint
as_constraint Span a bs = constraint.Span a bs
as_constraint (Alternative n) a bs = constraint.Alternative a bs n
as_constraint Synchronize a bs = constraint.Synchronize a bs

-- a constraint of one of these kinds
abbrev pub is_family : Constraint → Bool
is_family (constraint.Span a bs) = true
is_family (constraint.Alternative a bs n) = true
is_family (constraint.Synchronize a bs) = true
is_family _ = false

-- the row of a witness, of a constraint of the witness's kind
abbrev pub family_row : Kind → Region → Itv → List Itv → HierWitness → Bool
family_row Span r a bs (witness.Span c k i) = span_case r k i a bs
family_row (Alternative n) r a bs (witness.Alt c k i j) = alt_case r k i j n a bs
family_row Synchronize r a bs (witness.Sync c i) = sync_case r i a bs
family_row kind r a bs w = false

-- at least two places of the list have a part that is present
abbrev pub two_parts : Region → Itv → List Itv → Bool
two_parts r a bs = nat_lt 1 (part_count r IsThere a bs)

-- whether the row of some witness refutes, by whether the interval is present
abbrev pub some_case : Kind → Presence → Region → Itv → List Itv → Bool
some_case Span Absent r a bs = some_part r IsThere a bs
some_case Span Present r a bs = not (some_part r MayStart a bs) || not (some_part r MayEnd a bs) || some_part r StartsBefore a bs || some_part r EndsAfter a bs
some_case Span Maybe r a bs = some_part r StartsBefore a bs || some_part r EndsAfter a bs
some_case (Alternative n) Absent r a bs = some_part r IsThere a bs || is_crowded r n a bs
some_case (Alternative n) Present r a bs = is_crowded r n a bs || is_short r n a bs || some_part r Clashes a bs
some_case (Alternative n) Maybe r a bs = is_crowded r n a bs || some_part r Clashes a bs
some_case Synchronize Present r a bs = some_part r Clashes a bs
some_case Synchronize _ r a bs = false

abbrev pub some_refutes : Kind → Region → Itv → List Itv → Bool
some_refutes kind r a bs = some_case kind (bounds_of r a).presence r a bs

-- a valid witness of this constraint whose row refutes
pub record IsWitness (kind : Kind) (r : Region) (a : Itv) (bs : List Itv) (c : ℕ) (w : HierWitness) : Type 0 where
  pub constraint : constraint_of w ≡ c
  pub valid : IsTrue (is_valid w)
  pub row : IsTrue (family_row kind r a bs w)

-- the parts at two places are present
pub record AreTwo (r : Region) (a : Itv) (bs : List Itv) (i j : ℕ) : Type 0 where
  pub less : i < j
  pub first : IsTrue (at_part r IsThere a bs i)
  pub second : IsTrue (at_part r IsThere a bs j)
