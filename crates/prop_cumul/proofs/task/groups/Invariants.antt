use Rattle.prop_cumul.proofs.Making.{FirstGroups}
use Rattle.prop_cumul.proofs.task.groups.Given as goal

abbrev pub invariant-loop-x : goal.invariant-loop-x
invariant-loop-x l = FirstGroups l.intervals l.parts l.x-index l.list.items
