use Rattle.restart_rules.specs.Restarts.{limits_of}
use Rattle.commands.proofs.Searched.{searched}
use Rattle.commands.proofs.solving.search_logged.Goals as goal

pub returns : goal.returns
returns g c = searched c.args.model.now c.args.log.now (limits_of c.args.nodes c.args.restarts) c.in_ok-solved.solved (g.D.Desk.state c.args.desk.now) (g.D.Desk.state c.create_log.new.self) (g.D.Desk.state c.solve.new.desk) c.in_ok-create_log.field-0
    c.intervals.ensures.valid c.in_ok-create_log.ensures (rw c.from.ensures at c.in_ok-solved.ensures)
