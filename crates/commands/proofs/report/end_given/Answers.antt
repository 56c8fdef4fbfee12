use Rattle.std.proofs.Common.{sym, subst}
use Rattle.given_files.specs.code.Telling.{EndsStopped}
use Rattle.given_files.specs.laws.Endings.{told_ends}
use Rattle.commands.specs.code.Stops.{ending_of_stop}
use Rattle.commands.proofs.report.end_given.Goals as goal

pub returns : goal.returns
returns g c =
    let before = g.D.Desk.state c.args.desk.now in
    let after = g.D.Desk.state c.tell.new.desk in
    subst (λ ended. EndsStopped ending_of_stop c.args.given ended before after) (sym c.ended_of.ensures) (told_ends ending_of_stop c.args.given c.tell.result before after c.tell.ensures)
