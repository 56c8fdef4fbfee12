use Rattle.logtext.specs.Spelling.{witness_words}
use Rattle.logtext.proofs.Spaced.{ends_line, no_letter, no_words}
use Rattle.logtext.proofs.writer.LogWriter.put_fail.Goals as goal

pub returns-in_err-put : goal.returns-in_err-put
returns-in_err-put g c = no_letter (witness_words g.W.Numbers.numbers c.args.w.now) c.from_residual.ensures.0 c.in_err-put.ensures

pub returns-in_err-put_witness : goal.returns-in_err-put_witness
returns-in_err-put_witness g c = no_words (witness_words g.W.Numbers.numbers c.args.w.now) c.from_residual-in_err-put_witness.ensures.0 c.in_ok-put.ensures c.in_err-put_witness.ensures

pub returns : goal.returns
returns g c = ends_line (witness_words g.W.Numbers.numbers c.args.w.now) c.in_ok-put.ensures c.in_ok-put_witness.ensures c.put-2.ensures
