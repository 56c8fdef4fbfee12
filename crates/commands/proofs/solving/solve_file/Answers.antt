use Rattle.std.proofs.Common.{Ok, Err, sym, subst}
use Rattle.sched_base.specs.State.{Place}
use Rattle.sched_base.specs.Calls.{ReadsAtMost}
use Rattle.given_files.specs.Files.{file_of}
use Rattle.restart_rules.specs.Restarts.{limits_of}
use Rattle.commands.specs.Runs.Source.{file}
use Rattle.commands.proofs.Solved.{stopped, printed, half_printed}
use Rattle.commands.proofs.solving.solve_file.Goals as goal
use Rattle.given_files.specs.laws.Within.{model_written}
use Rattle.commands.proofs.Within.{model_searched}

pub returns-in-Err-clause-tries : goal.returns-in-Err-clause-tries
returns-in-Err-clause-tries g c =
    let old = g.D.Desk.state c.args.desk.now in
    let read = g.D.Desk.state c.read_file.new.desk in
    let after = g.D.Desk.state c.search_logged.new.desk in
    stopped c.in_ok-model.model (limits_of c.args.nodes c.args.restarts) (file c.args.name.now) c.args.log.now c.in-Err.stop old read after c.in_ok-model.ensures.only tt c.in_ok-model.ensures.reads.0 c.in_ok-model.ensures.reads.1 c.in-Err.ensures

pub returns-in-Ok-written-clause-tries : goal.returns-in-Ok-written-clause-tries
returns-in-Ok-written-clause-tries g c =
    printed c.in_ok-model.model (limits_of c.args.nodes c.args.restarts) c.in-Ok.solved (file c.args.name.now) c.args.log.now c.ending-ended.result _
    (g.D.Desk.state c.args.desk.now) (g.D.Desk.state c.read_file.new.desk) (g.D.Desk.state c.search_logged.new.desk) (g.D.Desk.state c.write_answer-written.new.desk)
    c.in_ok-model.ensures.only tt c.in_ok-model.ensures.reads.0 c.in_ok-model.ensures.reads.1 (λ x same. subst (λ (p : Place). ReadsAtMost 16777217 (file_of (g.D.Desk.state c.args.desk.now) c.args.name.now) p.left) (sym same) c.in_ok-model.ensures.reads.2) c.in-Ok.ensures c.in-Ok-written.ensures c.ending-ended.ensures.is c.ending-ended.ensures.success

pub returns-in-Err-written-clause-tries : goal.returns-in-Err-written-clause-tries
returns-in-Err-written-clause-tries g c =
    half_printed c.in_ok-model.model (limits_of c.args.nodes c.args.restarts) c.in-Ok.solved (file c.args.name.now) c.args.log.now _
    (g.D.Desk.state c.args.desk.now) (g.D.Desk.state c.read_file.new.desk) (g.D.Desk.state c.search_logged.new.desk) (g.D.Desk.state c.write_answer-written.new.desk)
    c.in_ok-model.ensures.only tt c.in_ok-model.ensures.reads.0 c.in_ok-model.ensures.reads.1 c.in-Ok.ensures c.in-Err-written.ensures

pub returns-in-Err-clause-within : goal.returns-in-Err-clause-within
returns-in-Err-clause-within g c =
    model_searched c.in_ok-model.model c.args.name.now c.args.log.now (limits_of c.args.nodes c.args.restarts) (Err c.in-Err.stop) (g.D.Desk.state c.args.desk.now) (g.D.Desk.state c.read_file.new.desk) (g.D.Desk.state c.search_logged.new.desk) c.in_ok-model.ensures.within c.in-Err.ensures

pub returns-in-Ok-written-clause-within : goal.returns-in-Ok-written-clause-within
returns-in-Ok-written-clause-within g c =
    model_written c.args.name.now _ _ (g.D.Desk.state c.args.desk.now) (g.D.Desk.state c.search_logged.new.desk) (g.D.Desk.state c.write_answer-written.new.desk)
    (model_searched c.in_ok-model.model c.args.name.now c.args.log.now (limits_of c.args.nodes c.args.restarts) (Ok c.in-Ok.solved) (g.D.Desk.state c.args.desk.now) (g.D.Desk.state c.read_file.new.desk) (g.D.Desk.state c.search_logged.new.desk) c.in_ok-model.ensures.within c.in-Ok.ensures) c.in-Ok-written.ensures

pub returns-in-Err-written-clause-within : goal.returns-in-Err-written-clause-within
returns-in-Err-written-clause-within g c =
    model_written c.args.name.now _ _ (g.D.Desk.state c.args.desk.now) (g.D.Desk.state c.search_logged.new.desk) (g.D.Desk.state c.write_answer-written.new.desk)
    (model_searched c.in_ok-model.model c.args.name.now c.args.log.now (limits_of c.args.nodes c.args.restarts) (Ok c.in-Ok.solved) (g.D.Desk.state c.args.desk.now) (g.D.Desk.state c.read_file.new.desk) (g.D.Desk.state c.search_logged.new.desk) c.in_ok-model.ensures.within c.in-Ok.ensures) c.in-Err-written.ensures
