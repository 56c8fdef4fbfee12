use Rattle.std.proofs.lemmas.Int.{to_z-of_z}
use Rattle.gatherer.specs.laws.Gathering.{goes_on, stops}
use Rattle.logtext.proofs.Spaced.{first_word, last_word, no_word}
use Rattle.logtext.proofs.writer.LogWriter.put_timed.Goals as goal

pub returns-in_err-put : goal.returns-in_err-put
returns-in_err-put g c = stops _ c.from_residual.ensures.0 c.in_err-put.ensures

pub returns-in_err-put_number : goal.returns-in_err-put_number
returns-in_err-put_number g c = goes_on c.in_ok-put.ensures (no_word _ c.from_residual-in_err-put_number.ensures.0 c.in_err-put_number.ensures)

pub returns : goal.returns
returns g c =
    let fits = c.ranges.t in
    goes_on c.in_ok-put.ensures (first_word _ c.in_ok-put_number.ensures (last_word (simp to_z-of_z at c.put_number-2.ensures)))
