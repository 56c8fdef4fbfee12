use Rattle.logtext.proofs.Lines.{split_no_guess}
use Rattle.logtext.proofs.line.read_split.Goals as goal

pub returns-in_default : goal.returns-in_default
returns-in_default g c = split_no_guess g.W.Numbers.numbers g.W.Numbers.is_valid c.args.words.now c.in_default.ensures
