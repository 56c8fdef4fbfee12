use Rattle.std.proofs.Common.{◌<◌, ◌+◌, subst, arith}
use Rattle.restart_rules.specs.Restarts.{Stretch, limits_of}
use Rattle.restart_rules.specs.code.Stretches.{Plan, MayOpen, plan_of, with_closed}
use Rattle.solver.specs.code.Searching.{IsLogged, state_in}
use Rattle.solver.proofs.logged.Running.{run_stops}
use Rattle.solver.proofs.state.Search.run.Goals as goal

pub returns-in_err-begin_anew_if_over-clause-logged : goal.returns-in_err-begin_anew_if_over-clause-logged
returns-in_err-begin_anew_if_over-clause-logged g c = λ from begun.
    let less : c.loop-n.self.nodes < c.args.nodes = omega (arith, c.loop-n.invariant.nodes, c.loop-n-test.true) in
    run_stops g.L.LogTo g.L.Lines c.args.model.now (limits_of c.args.nodes c.args.restarts) from c.begin_anew_if_over.new.lines c.begin_anew_if_over.new.self c.from_residual.result c.in_err-begin_anew_if_over.field-0.0 c.from_residual.ensures.1
    (c.in_err-begin_anew_if_over.ensures.logged from c.args.nodes less (c.loop-n.invariant.logged from begun))

pub returns-in_err-visit-clause-logged : goal.returns-in_err-visit-clause-logged
returns-in_err-visit-clause-logged g c = λ from begun.
    let less : c.loop-n.self.nodes < c.args.nodes = omega (arith, c.loop-n.invariant.nodes, c.loop-n-test.true) in
    let plan : Plan = plan_of c.args.nodes c.args.restarts c.begin_anew_if_over.new.stretches in
    let may : MayOpen plan c.begin_anew_if_over.new.self.nodes = record { more = omega (arith, less, c.in_ok-begin_anew_if_over.ensures.nodes); ongoing = c.in_ok-begin_anew_if_over.ensures.ongoing } in
    run_stops g.L.LogTo g.L.Lines c.args.model.now (limits_of c.args.nodes c.args.restarts) from c.visit.new.lines c.visit.new.self c.from_residual-in_err-visit.result c.in_err-visit.field-0.0 c.from_residual-in_err-visit.ensures.1
    (c.in_err-visit.ensures.logged from plan may (c.in_ok-begin_anew_if_over.ensures.logged from c.args.nodes less (c.loop-n.invariant.logged from begun)))

pub returns-then-not-branch-clause-logged : goal.returns-then-not-branch-clause-logged
returns-then-not-branch-clause-logged g c = λ from begun.
    let less : c.loop-n.self.nodes < c.args.nodes = omega (arith, c.loop-n.invariant.nodes, c.loop-n-test.true) in
    let now : Stretch = c.begin_anew_if_over.new.stretches in
    let plan : Plan = plan_of c.args.nodes c.args.restarts now in
    let may : MayOpen plan c.begin_anew_if_over.new.self.nodes = record { more = omega (arith, less, c.in_ok-begin_anew_if_over.ensures.nodes); ongoing = c.in_ok-begin_anew_if_over.ensures.ongoing } in
    let logged = c.in_ok-visit.ensures.logged from plan may (c.in_ok-begin_anew_if_over.ensures.logged from c.args.nodes less (c.loop-n.invariant.logged from begun)) in
    (record now { closed = now.closed + 1 }, subst (λ b. IsLogged g.L.LogTo c.args.model.now (with_closed plan) from c.visit.new.lines 0 (state_in b c.visit.new.self)) c.if-not-branch.true logged)

pub returns-clause-logged : goal.returns-clause-logged
returns-clause-logged g c = λ from begun. (c.loop-n.stretches, c.loop-n.invariant.logged from begun)
