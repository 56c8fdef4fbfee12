use Rattle.prop_temporal.specs.code.Heights.{IsReady}
use Rattle.prop_temporal.specs.laws.Quieting.{AreQuietBelow}
use Rattle.prop_temporal.proofs.walks.Walks.next.Given as goal

abbrev pub invariant-loop-n : goal.invariant-loop-n
invariant-loop-n l = AreQuietBelow l.model l.region.region l.best l.n × IsReady l.model l.region.region l.self
