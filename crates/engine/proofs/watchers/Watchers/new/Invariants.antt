use Rattle.engine.specs.code.Noted.{AreListed}
use Rattle.engine.proofs.watchers.Watchers.new.Given as goal

abbrev pub invariant-loop-k : goal.invariant-loop-k
invariant-loop-k g l = AreListed l.k (g.P.Propagator.watching l.model) (g.P.Propagator.watching_best l.model) (record { by_presence = l.by_presence.items; by_bound = l.by_bound.items; by_sequence = l.by_sequence.items; by_best = l.by_best })
