use Rattle.std.specs.Prelude.{◌≡◌}
use Rattle.cpo_elab.specs.Answers.Answer.{Accepted, Refused}
use Rattle.generated_models.specs.Shops.{shop_model}
use Rattle.restart_rules.specs.Restarts.{limits_of}
use Rattle.commands.specs.Runs.{shop_text}
use Rattle.commands.specs.Runs.Source.{generated}
use Rattle.commands.proofs.Ending.{solved, solve_stopped}
use Rattle.commands.proofs.trying.run_trial.Goals as goal

pub returns-in-Ok : goal.returns-in-Ok
returns-in-Ok g c = solved (generated c.args.shop) c.args.log.now (limits_of c.args.nodes c.args.restarts) c.in-Ok.ended (g.D.Desk.state c.args.desk.now) (g.D.Desk.state c.solve_shop.new.desk) c.in-Ok.ensures

pub returns-in-Err : goal.returns-in-Err
returns-in-Err g c = solve_stopped (generated c.args.shop) c.args.log.now (limits_of c.args.nodes c.args.restarts) c.in-Err.stop c.end_stopped.result (g.D.Desk.state c.args.desk.now) (g.D.Desk.state c.solve_shop.new.desk) (g.D.Desk.state c.end_stopped.new.desk)
    (λ r due.
    let shop = c.args.shop in
    let model = shop_model shop.seed shop.jobs shop.machines in
    let both : Refused r ≡ Accepted model = c.answer_is_determined.ensures.one (shop_text shop) (Refused r) (Accepted model) due (c.generated_texts_deserve.ensures shop.seed shop.jobs shop.machines c.requires.sized) in
    cc)
    c.in-Err.ensures c.end_stopped.ensures
