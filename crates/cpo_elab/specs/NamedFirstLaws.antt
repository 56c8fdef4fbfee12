-- Laws of the numbers that a model gives its sequences and its cumulative functions.
use Rattle.std.specs.Prelude.{◌≡◌, Bool, not, ◌||◌, List, slice_get, IsTrue}
use Rattle.sched_base.specs.declared.ids.Seq.{Seq}
use Rattle.sched_base.specs.declared.ids.Cum.{Cum}
use Rattle.sched_model.specs.Words.{pairwise}
use Rattle.sched_model.specs.Data.{Data, sequence_of, parts_of}
use Rattle.sched_model.specs.Valid.{IsValid}
use Rattle.cpo_elab.specs.NamedFirst.{is_named_sequence, is_named_cumul, sequence_place, cumul_place, new_seq, new_cum, named_first}

-- none that fails stands before one that passes
abbrev pub is_parted : {X : Type 0} → (X → Bool) → List X → Bool
is_parted first xs = pairwise (λ x y. first x || not (first y)) xs

-- a valid model stays valid
abbrev pub NamedFirstIsValid : Type 0
NamedFirstIsValid = (m : Data) → IsValid m → IsValid (named_first m)

-- under its new number stands what stood under the old one
abbrev pub SequencesStay : Type 0
SequencesStay = (m : Data) (p : Seq) → slice_get (named_first m).sequences (new_seq (sequence_place m) p).0 ≡ slice_get m.sequences p.0

abbrev pub CumulsStay : Type 0
CumulsStay = (m : Data) (f : Cum) → slice_get (named_first m).cumuls (new_cum (cumul_place m) f).0 ≡ slice_get m.cumuls f.0

-- so a constraint speaks of the same members, types and parts
abbrev pub SequencesLookAlike : Type 0
SequencesLookAlike = (m : Data) (p : Seq) → sequence_of (named_first m) (new_seq (sequence_place m) p) ≡ sequence_of m p

abbrev pub PartsLookAlike : Type 0
PartsLookAlike = (m : Data) (f : Cum) → parts_of (named_first m) (new_cum (cumul_place m) f) ≡ parts_of m f

-- where the named ones stand first, nothing changes
abbrev pub NothingMoves : Type 0
NothingMoves = (m : Data) → IsValid m → IsTrue (is_parted is_named_sequence m.sequences) → IsTrue (is_parted is_named_cumul m.cumuls) → named_first m ≡ m
