use Rattle.gatherer.specs.laws.Gathering.{goes_on}
use Rattle.logtext.proofs.writer.LogWriter.write_end.Goals as goal

pub returns-clause-gathers : goal.returns-clause-gathers
returns-clause-gathers g c = goes_on c.in_ok-put.ensures c.flush.ensures.gathers
