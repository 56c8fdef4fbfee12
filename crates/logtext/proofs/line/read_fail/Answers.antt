use Rattle.logtext.proofs.Lines.{fail_fails}
use Rattle.logtext.proofs.line.read_fail.Goals as goal

pub returns-in-Err : goal.returns-in-Err
returns-in-Err g c = fail_fails g.W.Numbers.numbers g.W.Numbers.is_valid c.args.words.now c.in-Err.fault c.in-Err.ensures
