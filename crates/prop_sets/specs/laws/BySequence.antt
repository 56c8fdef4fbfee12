-- The rows of a constraint are those of its sequence.
use Rattle.std.specs.Prelude.{◌≡◌, ℕ, Bool, true, nat_lt, ◌&&◌, List, Option, Some, None}
use Rattle.std.proofs.Common.{refl}
use Rattle.sched_base.specs.declared.ids.Itv.{Itv}
use Rattle.sched_base.specs.declared.ids.Seq.{Seq}
use Rattle.sched_model.specs.declared.types.Constraint.{Constraint}
use Rattle.sched_model.specs.declared.types.Constraint.TheVariants as constraint
use Rattle.sched_model.specs.Words.{passes}
use Rattle.sched_model.specs.Data.{Data, has}
use Rattle.region.specs.Cells.{Region, bounds_of}
use Rattle.task_sets.specs.Times.{overload_row, edge_row, not_end_row, detect_row, turned}
use Rattle.refute_seq.specs.Sets.{times_of, is_task, without_overlap, overload_of, edge_of, not_end_of, detect_of}
use Rattle.refute_seq.specs.laws.SetsAlike.{SameMembers}
use Rattle.findings.specs.code.Tables.{members_in}
use Rattle.prop_sets.specs.code.Tasks.{sequence_in}

pub by_sequence : (f : Seq → Bool) (o : Option Constraint) → passes (without_overlap f) o ≡ passes f (sequence_in o)
by_sequence f None = refl
by_sequence f (Some (constraint.NoOverlap p matrix direct)) = refl
by_sequence f (Some other) = refl

abbrev pub overload_in : Data → Region → List ℕ → Seq → Bool
overload_in m r s p = overload_row (times_of r) (is_task m r p) s

pub overload_by : (m : Data) (r : Region) (s : List ℕ) (o : Option Constraint) → passes (overload_of m r s) o ≡ passes (overload_in m r s) (sequence_in o)
overload_by m r s o = by_sequence (overload_in m r s) o

abbrev pub edge_in : Data → Region → ℕ → ℕ → List ℕ → List ℕ → List ℕ → Seq → Bool
edge_in m r side i s u v p = nat_lt side 2 && edge_row (turned side (times_of r)) (is_task m r p) i s u v

pub edge_by : (m : Data) (r : Region) (side i : ℕ) (s u v : List ℕ) (o : Option Constraint) → passes (edge_of m r side i s u v) o ≡ passes (edge_in m r side i s u v) (sequence_in o)
edge_by m r side i s u v o = by_sequence (edge_in m r side i s u v) o

abbrev pub not_end_in : Data → Region → ℕ → ℕ → List ℕ → Seq → Bool
not_end_in m r side i s p = nat_lt side 2 && not_end_row (turned side (times_of r)) (is_task m r p) i s

pub not_end_by : (m : Data) (r : Region) (side i : ℕ) (s : List ℕ) (o : Option Constraint) → passes (not_end_of m r side i s) o ≡ passes (not_end_in m r side i s) (sequence_in o)
not_end_by m r side i s o = by_sequence (not_end_in m r side i s) o

abbrev pub detect_in : Data → Region → ℕ → ℕ → List ℕ → Seq → Bool
detect_in m r side i s p = nat_lt side 2 && detect_row (turned side (times_of r)) (is_task m r p) i s

pub detect_by : (m : Data) (r : Region) (side i : ℕ) (s : List ℕ) (o : Option Constraint) → passes (detect_of m r side i s) o ≡ passes (detect_in m r side i s) (sequence_in o)
detect_by m r side i s o = by_sequence (detect_in m r side i s) o

-- what is the same of the members of a sequence
pub same_members : (m : Data) (r q : Region) (o : Option Constraint) → ((x : Itv) → has (members_in m (sequence_in o)) x ≡ true → bounds_of r x ≡ bounds_of q x) → SameMembers m r q o
same_members m r q None h = tt
same_members m r q (Some (constraint.NoOverlap p matrix direct)) h = h
same_members m r q (Some other) h = tt
