use Rattle.sched_model.specs.Valid.{is_constraint}
use Rattle.sched_model.proofs.walks.Elements.{passes_at}
use Rattle.sched_model.proofs.sentences.all_hold_in.Goals as goal

pub holds_in-requires-clause-valid : goal.holds_in-requires-clause-valid
holds_in-requires-clause-valid c = passes_at (is_constraint c.args.model.now) c.args.cs.now c.loop-c.c-index c.c-item.result c.requires.valid c.loop-c-test.true c.c-item.is
