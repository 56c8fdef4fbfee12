-- Whether lists of intervals and of sequences name what a cell is of.
use Rattle.std.specs.Prelude.{IsTrue, List, nat_eq}
use Rattle.std.specs.List.{list_any}
use Rattle.sched_base.specs.declared.ids.Itv.{Itv}
use Rattle.sched_base.specs.declared.ids.Seq.{Seq}
use Rattle.sched_model.specs.Data.{has}
use Rattle.region.specs.declared.types.CellName.{CellName}
use Rattle.region.specs.declared.types.CellName.TheVariants.{Presence, StartMin, StartMax, EndMin, EndMax, Order}

-- a presence is named where its interval is; no other cell is a presence
abbrev pub names_presence : List Itv → CellName → Type 0
names_presence xs (Presence x) = IsTrue (has xs x)
names_presence xs _ = Unit {0}

-- a bound is named where its interval is; a presence or an order isn't a bound
abbrev pub names_bound : List Itv → CellName → Type 0
names_bound xs (Presence x) = Unit {0}
names_bound xs (StartMin x) = IsTrue (has xs x)
names_bound xs (StartMax x) = IsTrue (has xs x)
names_bound xs (EndMin x) = IsTrue (has xs x)
names_bound xs (EndMax x) = IsTrue (has xs x)
names_bound xs (Order p x y) = Unit {0}

-- an order is named where its sequence is
abbrev pub names_order : List Seq → CellName → Type 0
names_order ps (Order p x y) = IsTrue (list_any (λ q. nat_eq p.0 q.0) ps)
names_order ps _ = Unit {0}
