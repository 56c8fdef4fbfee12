use Rattle.std.proofs.Common.{◌≡◌, Err, rules, refl, sym, subst}
use Rattle.restart_rules.specs.Restarts.{limits_of}
use Rattle.commands.specs.declared.stop.RunStop.TheVariants as stop
use Rattle.commands.specs.Runs.Source.{generated}
use Rattle.commands.specs.code.Tries.{TriesSolve}
use Rattle.commands.proofs.Solved.{nothing_read, unmade, stopped, printed, half_printed}
use Rattle.commands.proofs.trying.solve_shop.Goals as goal

pub returns-in_err-model : goal.returns-in_err-model
returns-in_err-model g c =
    let old = g.D.Desk.state c.args.desk.now in
    let is : c.from_residual.result ≡ Err (stop.Given c.in_err-model.field-0.0) = search rules in
    subst (λ r. TriesSolve (generated c.args.shop) c.args.log.now (limits_of c.args.nodes c.args.restarts) r old old) (sym is)
    (unmade c.args.shop c.args.log.now (limits_of c.args.nodes c.args.restarts) c.in_err-model.field-0.0 old c.in_err-model.ensures)

pub returns-in-Err : goal.returns-in-Err
returns-in-Err g c =
    let old = g.D.Desk.state c.args.desk.now in
    stopped c.in_ok-model.model (limits_of c.args.nodes c.args.restarts) (generated c.args.shop) c.args.log.now c.in-Err.stop old old (g.D.Desk.state c.search_logged.new.desk) (nothing_read old) refl refl c.in_ok-model.ensures c.in-Err.ensures

pub returns-in-Ok-written : goal.returns-in-Ok-written
returns-in-Ok-written g c =
    let old = g.D.Desk.state c.args.desk.now in
    printed c.in_ok-model.model (limits_of c.args.nodes c.args.restarts) c.in-Ok.solved (generated c.args.shop) c.args.log.now c.ending-ended.result _
    old old (g.D.Desk.state c.search_logged.new.desk) (g.D.Desk.state c.write_summary-written.new.desk)
    (nothing_read old) refl refl c.in_ok-model.ensures (λ x same. tt) c.in-Ok.ensures c.in-Ok-written.ensures c.ending-ended.ensures.is c.ending-ended.ensures.success

pub returns-in-Err-written : goal.returns-in-Err-written
returns-in-Err-written g c =
    let old = g.D.Desk.state c.args.desk.now in
    half_printed c.in_ok-model.model (limits_of c.args.nodes c.args.restarts) c.in-Ok.solved (generated c.args.shop) c.args.log.now _
    old old (g.D.Desk.state c.search_logged.new.desk) (g.D.Desk.state c.write_summary-written.new.desk)
    (nothing_read old) refl refl c.in_ok-model.ensures c.in-Ok.ensures c.in-Err-written.ensures
