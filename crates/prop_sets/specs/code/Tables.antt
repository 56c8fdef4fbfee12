-- What propagators are made of for a model: their round, and the members of each one's sequence.
use Rattle.std.specs.Prelude.{Bool, List}
use Rattle.sched_base.specs.declared.ids.Itv.{Itv}
use Rattle.sched_model.specs.Data.{Data}
use Rattle.findings.specs.code.Tables.{AreLists}
use Rattle.prop_sets.specs.code.Tasks.{size_of, members_at}

pub record Table : Type 0 where
  pub later : Bool
  pub members : List (List Itv)

-- it is made for the model
pub record IsFor (t : Table) (m : Data) : Type 0 where
  pub members : AreLists (members_at m) (size_of m) t.members
