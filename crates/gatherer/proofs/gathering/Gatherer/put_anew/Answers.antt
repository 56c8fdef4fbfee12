use Rattle.gatherer.specs.laws.Gathering.{flushed_holds, flushed_passes}
use Rattle.gatherer.proofs.gathering.Gatherer.put_anew.Goals as goal

pub returns-then-hold : goal.returns-then-hold
returns-then-hold g c = flushed_holds c.in_ok-flush.ensures.gathers c.if-hold.ensures

pub returns : goal.returns
returns g c = flushed_passes c.in_ok-flush.ensures.gathers c.in_ok-flush.ensures.none c.if-hold.ensures c.write.ensures
