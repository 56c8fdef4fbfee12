use Rattle.gatherer.specs.laws.Gathering.{goes_on, stops}
use Rattle.logtext.proofs.Spaced.{last_word}
use Rattle.logtext.proofs.writer.LogWriter.put_named.Goals as goal

pub returns-in_err-put : goal.returns-in_err-put
returns-in_err-put g c = stops _ c.from_residual.ensures.0 c.in_err-put.ensures

pub returns : goal.returns
returns g c = goes_on c.in_ok-put.ensures (last_word c.put_number.ensures)
