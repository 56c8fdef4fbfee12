use Rattle.std.proofs.Common.{◌≡◌, ◌∙◌, ap, sym, rules, to_z, of_z, w64}
use Rattle.sched_model.specs.Words.{passes}
use Rattle.sched_model.specs.States.{lies_in}
use Rattle.sched_model.proofs.rows.Behind.{lies_in_first}
use Rattle.sched_model.proofs.states.lies_in_some.Goals as goal

pub returns-in-None : goal.returns-in-None
returns-in-None c = ap (passes (lies_in c.args.a.now c.args.x c.args.v c.args.start_aligned c.args.end_aligned)) c.in-None.ensures
    ∙ sym (lies_in_first c.args.a.now c.args.x c.args.v c.args.start_aligned c.args.end_aligned c.args.is.now c.requires.apart c.requires.demanded)

pub returns-in-Some : goal.returns-in-Some
returns-in-Some c = let same : to_z w64 (of_z w64 c.args.v) ≡ c.args.v = search rules in
    c.lies_in.ensures ∙ ap (λ v. lies_in c.args.a.now c.args.x v c.args.start_aligned c.args.end_aligned c.in-Some.i) same
    ∙ ap (passes (lies_in c.args.a.now c.args.x c.args.v c.args.start_aligned c.args.end_aligned)) c.in-Some.ensures
    ∙ sym (lies_in_first c.args.a.now c.args.x c.args.v c.args.start_aligned c.args.end_aligned c.args.is.now c.requires.apart c.requires.demanded)
