use Rattle.std.proofs.Common.{sym, subst, ◌∙◌}
use Rattle.sched_model.specs.Value.{value_of}
use Rattle.sched_model.specs.laws.Within.{Within}
use Rattle.look_hull.specs.laws.Saturation.{look_by_saturation}
use Rattle.look_hull.specs.laws.Values.{value_in_look}
use Rattle.look_hull.proofs.hull.look_hull.Goals as goal

pub returns-clause-value : goal.returns-clause-value
returns-clause-value c = c.ends_of.ensures ∙ look_by_saturation c.args.model.now c.args.look.now.region c.args.e.now c.intervals.ensures.valid c.requires.of c.requires.hull

pub returns-clause-within : goal.returns-clause-within
returns-clause-within c = λ a domain allows.
    subst (λ r. Within r (value_of a c.args.e.now)) (sym (c.ends_of.ensures ∙ look_by_saturation c.args.model.now c.args.look.now.region c.args.e.now c.intervals.ensures.valid c.requires.of c.requires.hull))
    (value_in_look c.args.model.now c.args.look.now.region a c.args.e.now c.requires.of domain allows)
