use Rattle.std.proofs.Common.{rules, SFits, w64}
use Rattle.std.proofs.lemmas.Int.{to_z-of_z}
use Rattle.logtext.proofs.Spaced.{first_word, last_word, no_word}
use Rattle.logtext.proofs.writer.LogWriter.put_segment.Goals as goal

pub returns-in_err-put_number : goal.returns-in_err-put_number
returns-in_err-put_number g c =
    let fits_p : SFits w64 c.args.segment.p = search rules in
    no_word _ c.from_residual.ensures.0 (simp to_z-of_z at c.in_err-put_number.ensures)

pub returns-in_err-put_number-2 : goal.returns-in_err-put_number-2
returns-in_err-put_number-2 g c =
    let fits_p : SFits w64 c.args.segment.p = search rules in
    let fits_q : SFits w64 c.args.segment.q = search rules in
    first_word _ (simp to_z-of_z at c.in_ok-put_number.ensures) (no_word _ c.from_residual-in_err-put_number-2.ensures.0 (simp to_z-of_z at c.in_err-put_number-2.ensures))

pub returns : goal.returns
returns g c =
    let fits_p : SFits w64 c.args.segment.p = search rules in
    let fits_q : SFits w64 c.args.segment.q = search rules in
    let fits_v : SFits w64 c.args.segment.v = search rules in
    first_word _ (simp to_z-of_z at c.in_ok-put_number.ensures) (first_word _ (simp to_z-of_z at c.in_ok-put_number-2.ensures) (last_word (simp to_z-of_z at c.put_number-3.ensures)))
