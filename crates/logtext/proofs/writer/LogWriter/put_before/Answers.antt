use Rattle.logtext.proofs.Spaced.{first_word, last_word, no_word}
use Rattle.logtext.proofs.writer.LogWriter.put_before.Goals as goal

pub returns-in_err-put : goal.returns-in_err-put
returns-in_err-put g c = no_word _ c.from_residual.ensures.0 c.in_err-put.ensures

pub returns-in_err-put_number : goal.returns-in_err-put_number
returns-in_err-put_number g c = first_word _ c.in_ok-put.ensures (no_word _ c.from_residual-in_err-put_number.ensures.0 c.in_err-put_number.ensures)

pub returns-in_err-put_number-2 : goal.returns-in_err-put_number-2
returns-in_err-put_number-2 g c = first_word _ c.in_ok-put.ensures (first_word _ c.in_ok-put_number.ensures (no_word _ c.from_residual-in_err-put_number-2.ensures.0 c.in_err-put_number-2.ensures))

pub returns : goal.returns
returns g c = first_word _ c.in_ok-put.ensures (first_word _ c.in_ok-put_number.ensures (first_word _ c.in_ok-put_number-2.ensures (last_word c.put_number-3.ensures)))
