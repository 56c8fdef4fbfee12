-- What propagators are made of for a model: the members of each one's sequence, and the sequence.
use Rattle.std.specs.Prelude.{◌≡◌, ℕ, List, [], ◌∷◌, length, Option, Some, None}
use Rattle.sched_base.specs.declared.ids.Itv.{Itv}
use Rattle.sched_base.specs.declared.ids.Seq.{Seq}
use Rattle.sched_model.specs.Data.{Data}
use Rattle.findings.specs.code.Tables.{AreLists, members_in}
use Rattle.prop_unary.specs.code.Tasks.{size_of, sequence_at}

pub record Table : Type 0 where
  pub constraints : ℕ
  pub members : List (List Itv)
  pub sequences : List (List Seq)

abbrev pub members_at : Data → ℕ → List Itv
members_at m k = members_in m (sequence_at m k)

abbrev pub as_list : Option Seq → List Seq
as_list None = []
as_list (Some p) = p ∷ []

abbrev pub sequences_at : Data → ℕ → List Seq
sequences_at m k = as_list (sequence_at m k)

-- it is made for the model
pub record IsFor (t : Table) (m : Data) : Type 0 where
  pub constraints : t.constraints ≡ length m.constraints
  pub members : AreLists (members_at m) (size_of m) t.members
  pub sequences : AreLists (sequences_at m) (size_of m) t.sequences
