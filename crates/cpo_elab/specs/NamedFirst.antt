-- How a model numbers its sequences and its cumulative functions: those that have a name first, as a text defines them, then those that
-- are written inside constraints.
use Rattle.std.specs.Prelude.{ℕ, ◌+◌, Bool, not, if◌then◌else◌, List, ◌++◌, map, take, is_some, slice_get}
use Rattle.std.specs.List.{filter, count_by}
use Rattle.sched_base.specs.declared.ids.Seq.{Seq}
use Rattle.sched_base.specs.declared.ids.Cum.{Cum}
use Rattle.sched_model.specs.declared.types.SequenceDef.{SequenceDef}
use Rattle.sched_model.specs.declared.types.CumulDef.{CumulDef}
use Rattle.sched_model.specs.declared.types.Constraint.{Constraint}
use Rattle.sched_model.specs.declared.types.Constraint.TheVariants.{NoOverlap, First, Last, Before, Prev, CumulIn}
use Rattle.sched_model.specs.Words.{passes}
use Rattle.sched_model.specs.Data.{Data}

abbrev pub is_named_sequence : SequenceDef → Bool
is_named_sequence d = is_some d.name

abbrev pub is_named_cumul : CumulDef → Bool
is_named_cumul f = is_some f.name

-- the items that pass a test, then the others, each in their order
abbrev pub parted : {X : Type 0} → (X → Bool) → List X → List X
parted first xs = filter first xs ++ filter (λ x. not (first x)) xs

-- the place there of the item at a place: before it stand those of its kind that did, and before the others all that pass
abbrev pub new_place : {X : Type 0} → (X → Bool) → List X → ℕ → ℕ
new_place first xs i = if passes first (slice_get xs i) then count_by first (take i xs) else count_by first xs + count_by (λ x. not (first x)) (take i xs)

-- the places that the sequences and the functions of a model get
abbrev pub sequence_place : Data → ℕ → ℕ
sequence_place m = new_place is_named_sequence m.sequences

abbrev pub cumul_place : Data → ℕ → ℕ
cumul_place m = new_place is_named_cumul m.cumuls

abbrev pub new_seq : (ℕ → ℕ) → Seq → Seq
new_seq place p = record { 0 = place p.0 }

abbrev pub new_cum : (ℕ → ℕ) → Cum → Cum
new_cum place f = record { 0 = place f.0 }

-- a constraint that speaks of the sequences and functions at their new places
abbrev pub renumbered : (ℕ → ℕ) → (ℕ → ℕ) → Constraint → Constraint
renumbered seqs cums (NoOverlap p matrix direct) = NoOverlap (new_seq seqs p) matrix direct
renumbered seqs cums (First p a) = First (new_seq seqs p) a
renumbered seqs cums (Last p a) = Last (new_seq seqs p) a
renumbered seqs cums (Before p a b) = Before (new_seq seqs p) a b
renumbered seqs cums (Prev p a b) = Prev (new_seq seqs p) a b
renumbered seqs cums (CumulIn f w lo hi) = CumulIn (new_cum cums f) w lo hi
renumbered seqs cums c = c

-- the same model with its named sequences and functions first
abbrev pub named_first : Data → Data
named_first m = record m {
  sequences = parted is_named_sequence m.sequences;
  cumuls = parted is_named_cumul m.cumuls;
  constraints = map (renumbered (sequence_place m) (cumul_place m)) m.constraints;
}
