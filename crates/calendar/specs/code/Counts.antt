-- How many nodes the constraints of a calendar have: a negative number has one more than another.
use Rattle.std.specs.Prelude.{ℕ, ◌+◌, ℤ, pos, int_lt, if◌then◌else◌, List, sum_by}
use Rattle.calendar.specs.declared.step.Pair.{Pair}
use Rattle.calendar.specs.declared.rules.Demand.{Demand}
use Rattle.calendar.specs.declared.rules.Demand.TheVariants.{Start, Extent}

abbrev pub number_nodes : ℤ → ℕ
number_nodes z = if int_lt z (pos 0) then 2 else 1

abbrev pub rule_nodes : Demand → Pair → ℕ
rule_nodes Start r = 7 + number_nodes r.t + number_nodes r.v
rule_nodes Extent r = 10 + number_nodes r.t + number_nodes r.v

abbrev pub made_nodes : Demand → List Pair → ℕ
made_nodes demand rs = sum_by (rule_nodes demand) rs
