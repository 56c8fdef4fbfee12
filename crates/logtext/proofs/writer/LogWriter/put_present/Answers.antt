use Rattle.std.proofs.lemmas.Int.{to_z-of_z}
use Rattle.logtext.proofs.Spaced.{first_word, last_word, no_word}
use Rattle.logtext.proofs.writer.LogWriter.put_present.Goals as goal

pub returns-in_err-put : goal.returns-in_err-put
returns-in_err-put g c = no_word _ c.from_residual.ensures.0 c.in_err-put.ensures

pub returns-in_err-put_number : goal.returns-in_err-put_number
returns-in_err-put_number g c =
    let fits = c.ranges.s in
    first_word _ c.in_ok-put.ensures (no_word _ c.from_residual-in_err-put_number.ensures.0 (simp to_z-of_z at c.in_err-put_number.ensures))

pub returns : goal.returns
returns g c =
    let start_fits = c.ranges.s in
    let end_fits = c.ranges.e in
    first_word _ c.in_ok-put.ensures (first_word _ (simp to_z-of_z at c.in_ok-put_number.ensures) (last_word (simp to_z-of_z at c.put_number-2.ensures)))
