use Rattle.logtext.specs.Spelling.{guess_words}
use Rattle.logtext.proofs.Spaced.{ends_line, no_letter, no_words}
use Rattle.logtext.proofs.writer.LogWriter.put_split.Goals as goal

pub returns-in_err-put : goal.returns-in_err-put
returns-in_err-put g c = no_letter (guess_words c.args.g) c.from_residual.ensures.0 c.in_err-put.ensures

pub returns-in_err-put_guess : goal.returns-in_err-put_guess
returns-in_err-put_guess g c = no_words (guess_words c.args.g) c.from_residual-in_err-put_guess.ensures.0 c.in_ok-put.ensures c.in_err-put_guess.ensures

pub returns : goal.returns
returns g c = ends_line (guess_words c.args.g) c.in_ok-put.ensures c.in_ok-put_guess.ensures c.put-2.ensures
