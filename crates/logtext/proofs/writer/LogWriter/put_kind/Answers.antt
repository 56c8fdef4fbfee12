use Rattle.std.proofs.Common.{refl}
use Rattle.gatherer.specs.laws.Gathering.{goes_on, stops}
use Rattle.logtext.proofs.Spaced.{first_word, no_word}
use Rattle.logtext.proofs.writer.LogWriter.put_kind.Goals as goal

pub returns-in_err-put : goal.returns-in_err-put
returns-in_err-put g c = no_word _ c.from_residual.ensures.0 (stops c.args.word.now refl c.in_err-put.ensures)

pub returns-in_err-put-2 : goal.returns-in_err-put-2
returns-in_err-put-2 g c = no_word _ c.from_residual-in_err-put-2.ensures.0 (goes_on c.in_ok-put.ensures c.in_err-put-2.ensures)

pub returns : goal.returns
returns g c = first_word _ (goes_on c.in_ok-put.ensures c.in_ok-put-2.ensures) c.put_numbers.ensures
