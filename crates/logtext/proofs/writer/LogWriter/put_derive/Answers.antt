use Rattle.std.proofs.Common.{◌++◌, refl}
use Rattle.logtext.specs.Spelling.{guess_words, witness_words}
use Rattle.logtext.proofs.Spaced.{ends_line, no_letter, no_words, words_on, words_stop}
use Rattle.logtext.proofs.writer.LogWriter.put_derive.Goals as goal

pub returns-in_err-put : goal.returns-in_err-put
returns-in_err-put g c = no_letter (guess_words c.args.g ++ witness_words g.W.Numbers.numbers c.args.w.now) c.from_residual.ensures.0 c.in_err-put.ensures

pub returns-in_err-put_guess : goal.returns-in_err-put_guess
returns-in_err-put_guess g c = no_words (guess_words c.args.g ++ witness_words g.W.Numbers.numbers c.args.w.now) c.from_residual-in_err-put_guess.ensures.0 c.in_ok-put.ensures (words_stop _ _ refl c.in_err-put_guess.ensures)

pub returns-in_err-put_witness : goal.returns-in_err-put_witness
returns-in_err-put_witness g c = no_words (guess_words c.args.g ++ witness_words g.W.Numbers.numbers c.args.w.now) c.from_residual-in_err-put_witness.ensures.0 c.in_ok-put.ensures (words_on _ _ c.in_ok-put_guess.ensures c.in_err-put_witness.ensures)

pub returns : goal.returns
returns g c = ends_line (guess_words c.args.g ++ witness_words g.W.Numbers.numbers c.args.w.now) c.in_ok-put.ensures (words_on _ _ c.in_ok-put_guess.ensures c.in_ok-put_witness.ensures) c.put-2.ensures
