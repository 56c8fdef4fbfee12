use Rattle.std.proofs.Common.{◌∙◌, not, ap, sym}
use Rattle.sched_model.specs.Words.{passes}
use Rattle.sched_model.specs.States.{shares_moment}
use Rattle.sched_model.proofs.rows.Behind.{free_of_first}
use Rattle.sched_model.proofs.states.is_free_of.Goals as goal

pub returns-in-None : goal.returns-in-None
returns-in-None c = ap (λ o. not (passes (shares_moment c.args.a.now c.args.x) o)) c.in-None.ensures
    ∙ sym (free_of_first c.args.a.now c.args.x c.args.is.now c.requires.apart c.requires.demanded)

pub returns-in-Some : goal.returns-in-Some
returns-in-Some c = ap not c.shares_moment.ensures ∙ ap (λ o. not (passes (shares_moment c.args.a.now c.args.x) o)) c.in-Some.ensures
    ∙ sym (free_of_first c.args.a.now c.args.x c.args.is.now c.requires.apart c.requires.demanded)
