-- The model of the statements read so far, and what the code keeps beside it.
use Rattle.std.specs.Prelude.{◌≡◌, ℕ, ◌+◌, ◌-◌, ◌^◌, min, ℤ, Bool, true, false, not, List, Option, Some, None, if◌then◌else◌}
use Rattle.std.specs.Str.{bytes_eq}
use Rattle.std.specs.Map.{lookup}
use Rattle.sched_model.specs.Data.{Data}
use Rattle.sched_model.specs.Valid.{IsValid, cell_count, node_total}
use Rattle.cpo_elab.specs.declared.names.Meaning.{Meaning}
use Rattle.cpo_elab.specs.declared.names.Sort.{Sort}
use Rattle.cpo_elab.specs.declared.names.Sort.TheVariants.{Interval, Matrix, Sequence, Cumulated, State}
use Rattle.cpo_elab.specs.declared.uses.Asked.{Asked}
use Rattle.cpo_elab.specs.declared.uses.Asked.TheVariants.{Known, OfItsSort}
use Rattle.cpo_elab.specs.declared.flaws.PairFlaw.{PairFlaw}
use Rattle.cpo_elab.specs.declared.flaws.PairFlaw.TheVariants.{Reversed, Outside}
use Rattle.cpo_elab.specs.declared.flaws.AmountFlaw.{AmountFlaw}
use Rattle.cpo_elab.specs.declared.flaws.AmountFlaw.TheVariants.{Negative, Large}
use Rattle.cpo_elab.specs.Named.{NameTest, number_of}
use Rattle.cpo_elab.specs.Stages.{Stage, is_known, is_function}
use Rattle.cpo_elab.specs.Judged.{is_unknown, is_of_other_sort, is_reversed, is_outside, is_negative, is_large, node_limit}

abbrev pub same_sort : Sort → Sort → Bool
same_sort Interval Interval = true
same_sort Matrix Matrix = true
same_sort Sequence Sequence = true
same_sort Cumulated Cumulated = true
same_sort State State = true
same_sort _ _ = false

-- the number that a meaning gives to a name of this sort
abbrev pub number_if : Sort → Option Meaning → Option ℕ
number_if sort None = None
number_if sort (Some x) = if same_sort x.sort sort then Some x.id else None

-- the table of names says what the model does; cells are counted, and so is the room for nodes that is left
pub record IsDraft (table : List (List ℕ × Meaning)) (cells room : ℕ) (m : Data) : Type 0 where
  pub names : (sort : Sort) (n : List ℕ) → number_if sort (lookup (bytes_eq n) table) ≡ number_of m sort n
  pub cell_sum : cells ≡ cell_count m
  pub room_sum : room + node_total m ≡ node_limit
  pub valid : IsValid m

-- a count, as far as the code counts
unfoldable pub capped : ℕ → ℕ
capped n = min n (2 ^ 64 - 1)

-- the sum of two counts, as far as the code counts
unfoldable pub plus : ℕ → ℕ → ℕ
plus a b = min (a + b) (2 ^ 64 - 1)

-- what is asked of a name that is used
abbrev pub fails : Stage → Asked → NameTest
fails st Known = is_unknown st
fails st OfItsSort = is_of_other_sort st.model

-- and of that of a step function
abbrev pub function_fails : Stage → Asked → List ℕ → Bool
function_fails st Known n = not (is_known st n)
function_fails st OfItsSort n = not (is_function st n)

-- what may be wrong with a pair, and with an amount
abbrev pub is_flawed_pair : PairFlaw → ℤ × ℤ → Bool
is_flawed_pair Reversed = is_reversed
is_flawed_pair Outside = is_outside

abbrev pub is_flawed : AmountFlaw → ℤ → Bool
is_flawed Negative = is_negative
is_flawed Large = is_large
