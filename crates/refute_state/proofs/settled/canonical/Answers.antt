use Rattle.refute_state.specs.laws.Canonical.{canonical_keeps}
use Rattle.refute_state.proofs.settled.canonical.Goals as goal

pub returns-clause-keeps : goal.returns-clause-keeps
returns-clause-keeps c = canonical_keeps c.args.model.now c.args.slots.now c.canonical_each.result c.intervals.ensures.valid c.canonical_each.ensures
