use Rattle.std.proofs.Common.{◌≡◌, true, sym, subst, ◌∙◌}
use Rattle.restart_rules.specs.Restarts.{is_over}
use Rattle.restart_rules.specs.code.Stretches.{plan_of}
use Rattle.solver.specs.code.Searching.{StaysOn}
use Rattle.solver.proofs.state.Search.begin_anew_if_over.Goals as goal

pub returns-clause-logged : goal.returns-clause-logged
returns-clause-logged g c =
    let over : is_over c.args.restarts c.args.stretches.now ≡ true = sym c.is_over.ensures ∙ c.if-not-is_over.false in
    λ from nodes less logged.
    subst (λ k. StaysOn g.L.LogTo g.L.Lines c.args.model.now (plan_of nodes c.args.restarts k) from c.begin_anew.new.lines c.begin_anew.new.self c.begin_anew.result) (sym c.begin.ensures)
    (c.begin_anew.ensures.logged from (plan_of nodes c.args.restarts c.args.stretches.now) less over logged)
