use Rattle.prop_cumul.proofs.Making.{FirstTasks}
use Rattle.prop_cumul.proofs.task.tasks_of.Given as goal

abbrev pub invariant-loop-constraint : goal.invariant-loop-constraint
invariant-loop-constraint l = FirstTasks l.model l.constraints l.constraint-index l.list.items
