-- A thing that can have a name, before a draft has it.
use Rattle.std.specs.Prelude.{◌≡◌, ℕ, List, length, Option, Some, None, ⊤}
use Rattle.sched_model.specs.Data.{Data, with_interval, with_matrix, with_sequence, with_cumul, with_state}
use Rattle.sched_model.specs.Valid.{pair_count}
use Rattle.cpo_elab.specs.declared.item.Item.{Item}
use Rattle.cpo_elab.specs.declared.item.Item.TheVariants as item
use Rattle.cpo_elab.specs.declared.names.Sort.{Sort}
use Rattle.cpo_elab.specs.declared.names.Sort.TheVariants.{Interval, Matrix, Sequence, Cumulated, State}

abbrev pub with_item : Item → Data → Data
with_item (item.Interval d) = with_interval d
with_item (item.Matrix d) = with_matrix d
with_item (item.Sequence d) = with_sequence d
with_item (item.Cumulated d) = with_cumul d
with_item (item.State d) = with_state d

abbrev pub item_name : Item → Option (List ℕ)
item_name (item.Interval d) = Some d.name
item_name (item.Matrix d) = Some d.name
item_name (item.Sequence d) = d.name
item_name (item.Cumulated d) = d.name
item_name (item.State d) = Some d.name

abbrev pub item_sort : Item → Sort
item_sort (item.Interval d) = Interval
item_sort (item.Matrix d) = Matrix
item_sort (item.Sequence d) = Sequence
item_sort (item.Cumulated d) = Cumulated
item_sort (item.State d) = State

-- the number that it gets
abbrev pub next_id : Item → Data → ℕ
next_id (item.Interval d) m = length m.intervals
next_id (item.Matrix d) m = length m.matrices
next_id (item.Sequence d) m = length m.sequences
next_id (item.Cumulated d) m = length m.cumuls
next_id (item.State d) m = length m.states

-- the members that are paired, and the cells and nodes that it brings
abbrev pub item_members : Item → ℕ
item_members (item.Sequence d) = length d.members
item_members _ = 0

abbrev pub item_cells : Item → ℕ
item_cells (item.Interval d) = 5
item_cells (item.Sequence d) = pair_count (length d.members)
item_cells _ = 0

abbrev pub item_nodes : Item → ℕ
item_nodes (item.Cumulated d) = length d.parts
item_nodes _ = 0

-- a thing without a name, where there is one
abbrev pub with_any : Option Item → Data → Data
with_any None m = m
with_any (Some x) m = with_item x m

abbrev pub IsUnnamed : Option Item → Type 0
IsUnnamed None = ⊤
IsUnnamed (Some x) = item_name x ≡ None

abbrev pub any_members : Option Item → ℕ
any_members None = 0
any_members (Some x) = item_members x

abbrev pub any_cells : Option Item → ℕ
any_cells None = 0
any_cells (Some x) = item_cells x

abbrev pub any_nodes : Option Item → ℕ
any_nodes None = 0
any_nodes (Some x) = item_nodes x
