use Rattle.std.proofs.Common.{◌≡◌, ◌++◌, ◌∷◌, ◌+◌, [], sym, subst, rules}
use Rattle.std.specs.Prelude.{Some}
use Rattle.prop_cumul.specs.code.Tables.{IsTaskOf}
use Rattle.prop_cumul.proofs.Making.{FirstTasks, one_task}
use Rattle.prop_cumul.proofs.task.tasks_of.Goals as goal

pub loop-constraint-preserved : goal.loop-constraint-preserved
loop-constraint-preserved c =
    let put : c.push.new.self.items ≡ c.loop-constraint.list.items ++ c.in_ok-task_of.field-0 ∷ [] = search rules in
    let of : IsTaskOf c.args.model.now (Some c.constraint-item.result) c.in_ok-task_of.field-0 = search rules in
    subst (λ ts. FirstTasks c.args.model.now c.args.constraints.now (c.loop-constraint.constraint-index + 1) ts) (sym put)
    (one_task c.args.model.now c.args.constraints.now c.loop-constraint.constraint-index c.loop-constraint.list.items c.in_ok-task_of.field-0 c.constraint-item.result c.loop-constraint.invariant c.loop-constraint-test.true c.constraint-item.is of)
