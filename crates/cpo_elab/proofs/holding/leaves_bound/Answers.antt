use Rattle.std.proofs.Common.{◌∙◌, is_none}
use Rattle.sched_model.specs.Hull.{hull_of}
use Rattle.cpo_elab.proofs.judging.Written.{one_lacks}
use Rattle.cpo_elab.proofs.holding.leaves_bound.Goals as goal

pub returns-in-One : goal.returns-in-One
returns-in-One c = λ es h. one_lacks c.args.draft.now es c.args.written.now c.in-One.e _ c.in-One.is h (c.has_none.ensures ∙ (λ i. is_none (hull_of (c.model.ensures.same i) c.in-One.e)))
