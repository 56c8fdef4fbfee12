use Rattle.std.proofs.Common.{sym, subst}
use Rattle.given_files.specs.laws.Endings.{told_ends}
use Rattle.last_plan.specs.code.Ended.{ending_of_given, EndsStopped}
use Rattle.last_plan.specs.declared.stop.PlanStop.TheVariants as stop
use Rattle.last_plan.proofs.report.end_given.Goals as goal

pub returns : goal.returns
returns g c =
    let before = g.D.Desk.state c.args.desk.now in
    let after = g.D.Desk.state c.tell.new.desk in
    subst (λ ended. EndsStopped (stop.Given c.args.given) ended before after) (sym c.ended_of.ensures) (told_ends ending_of_given c.args.given c.tell.result before after c.tell.ensures)
