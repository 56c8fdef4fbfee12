use Rattle.std.proofs.Common.{◌≡◌, ◌++◌, length, drop}
use Rattle.task_sets.specs.laws.Ects.{up_from, keep}
use Rattle.prop_energy.specs.code.Rows.{is_in_at}
use Rattle.prop_energy.proofs.members.members_of.Given as goal

abbrev pub invariant-loop-k : goal.invariant-loop-k
invariant-loop-k l = (l.set.items ++ keep (is_in_at l.look.region l.parts l.cut.start l.cut.end) (drop l.k (up_from 0 (length l.parts)))) ≡ keep (is_in_at l.look.region l.parts l.cut.start l.cut.end) (up_from 0 (length l.parts))
