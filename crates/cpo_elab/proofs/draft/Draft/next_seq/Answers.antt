use Rattle.std.proofs.Common.{ap, length, arith}
use Rattle.sched_model.specs.laws.Limits.{limits_of}
use Rattle.cpo_elab.proofs.draft.Draft.next_seq.Goals as goal

pub overflow_cast-result : goal.overflow_cast-result
overflow_cast-result c = let limits = limits_of c.self.inside.model c.self.invariant.valid.limits in omega (arith, limits.sequences, ap length c.sequences.ensures.list)
