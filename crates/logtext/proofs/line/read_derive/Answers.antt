use Rattle.logtext.proofs.Lines.{derive_fails}
use Rattle.logtext.proofs.line.read_derive.Goals as goal

pub returns-in-Err : goal.returns-in-Err
returns-in-Err g c =
    derive_fails g.W.Numbers.numbers g.W.Numbers.is_valid c.in-Some.guess c.args.words.now c.take_guess.new.words c.in-Err.fault c.in-Some.ensures.0 c.in-Some.ensures.1 c.in-Err.ensures
