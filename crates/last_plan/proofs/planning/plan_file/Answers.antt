use Rattle.std.proofs.Common.{◌≡◌, Ok, Err, rules, sym, subst}
use Rattle.logtext.specs.Extra.{log_refutes, log_numbers, log_valid}
use Rattle.replay.specs.Replaying.{ReplaysFront}
use Rattle.last_plan.specs.Counted.{counted, start}
use Rattle.last_plan.specs.code.Stops.{stop_of_replay}
use Rattle.last_plan.specs.code.Tries.{PlansFile}
use Rattle.last_plan.proofs.Told.{planned, not_planned}
use Rattle.last_plan.proofs.planning.plan_file.Goals as goal

pub returns-in_err-kernel-clause-plans : goal.returns-in_err-kernel-clause-plans
returns-in_err-kernel-clause-plans g c =
    let old = g.D.Desk.state c.args.desk.now in
    let after = g.D.Desk.state c.replay_front.new.desk in
    let is : c.from_residual-in_err-kernel.result ≡ Err (stop_of_replay c.in_err-kernel.field-0.0) = search rules in
    subst (λ r. PlansFile c.args.model.now c.args.log.now r old after) (sym is)
    (not_planned c.args.model.now c.args.log.now c.in_err-kernel.field-0.0 c.in_ok-open_in.field-0 old (g.D.Desk.state c.open_in.new.self) after _ _ c.in_ok-open_in.ensures c.in_err-kernel.ensures.replays)

pub returns-clause-plans : goal.returns-clause-plans
returns-clause-plans g c =
    let opened = g.D.Desk.state c.open_in.new.self in
    let after = g.D.Desk.state c.replay_front.new.desk in
    let begun : c.in_ok-tally.tally ≡ start c.args.model.now = search rules in
    planned c.args.model.now c.args.log.now c.plan_of.result c.in_ok-open_in.field-0 (g.D.Desk.state c.args.desk.now) opened after c.in_ok-kernel.kernel c.replay_front.new.watcher
    c.in_ok-open_in.ensures (subst (λ t. ReplaysFront log_refutes log_numbers log_valid counted c.args.model.now (Ok c.in_ok-kernel.kernel) t c.replay_front.new.watcher opened after) begun c.in_ok-kernel.ensures.replays) c.plan_of.ensures.is (c.plan_of.ensures.means c.args.model.now c.in_ok-kernel.ensures.ready)
