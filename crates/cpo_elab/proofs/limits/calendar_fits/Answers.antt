use Rattle.std.proofs.Common.{◌∙◌, ap}
use Rattle.calendar.specs.code.Counts.{made_nodes}
use Rattle.calendar.specs.Rules.{rules_of}
use Rattle.cpo_elab.specs.Named.{itv_of}
use Rattle.cpo_elab.specs.Stages.{demand_of}
use Rattle.cpo_elab.proofs.adding.Made.{many_rules, rules_counted}
use Rattle.cpo_elab.proofs.limits.calendar_fits.Goals as goal

pub returns : goal.returns
returns c =
    let demand = demand_of c.args.word in
    let a = itv_of c.args.draft.now c.args.a.now in
    c.rules_fit.ensures (rules_of demand a c.args.calendar.now)
    (many_rules demand a c.args.calendar.now c.ranges-ranges.result.now c.ranges-ranges.ensures.closed)
    (rules_counted demand a c.args.calendar.now c.ranges-ranges.result.now _ c.ranges-ranges.ensures.closed (c.made_nodes-nodes.ensures ∙ ap (λ d. made_nodes d c.ranges-ranges.result.now) c.demand_of.ensures))
