-- What propagators are made of for a model: one list for each of them.
use Rattle.std.specs.Prelude.{◌≡◌, ℕ, ◌<◌, List, [], length, slice_index_or, Option, Some, None}
use Rattle.sched_base.specs.declared.ids.Itv.{Itv}
use Rattle.sched_base.specs.declared.ids.Seq.{Seq}
use Rattle.sched_model.specs.Data.{Data, members_of}

-- the members of a sequence, where there is one
abbrev pub members_in : Data → Option Seq → List Itv
members_in m None = []
members_in m (Some p) = members_of m p

-- one list for each of the first n, as it is wanted
pub record AreLists {X : Type 0} (wanted : ℕ → List X) (n : ℕ) (t : List (List X)) : Type 0 where
  pub size : length t ≡ n
  pub each : (k : ℕ) → k < n → slice_index_or t k [] ≡ wanted k
