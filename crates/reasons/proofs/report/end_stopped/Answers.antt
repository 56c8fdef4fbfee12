use Rattle.std.proofs.Common.{sym, subst}
use Rattle.given_files.specs.code.Telling.{EndsStopped}
use Rattle.given_files.specs.laws.Endings.{told_ends}
use Rattle.reasons.specs.code.Ended.{ending_of_stop}
use Rattle.reasons.proofs.report.end_stopped.Goals as goal

pub returns : goal.returns
returns g c =
    let before = g.D.Desk.state c.args.desk.now in
    let after = g.D.Desk.state c.tell.new.desk in
    subst (λ ended. EndsStopped ending_of_stop c.args.stop ended before after) (sym c.ended_of.ensures) (told_ends ending_of_stop c.args.stop c.tell.result before after c.tell.ensures)
