use Rattle.std.proofs.Common.{sym, ◌∙◌}
use Rattle.logtext.proofs.Witnesses.{no_more}
use Rattle.logtext.proofs.step.read_numbers.Goals as goal

pub returns-in_default : goal.returns-in_default
returns-in_default c = λ zs fit e. no_more c.loop-words.invariant.0 zs c.loop-words.words fit c.loop-words-test.ensures c.in_default.ensures (sym c.loop-words.invariant.3 ∙ e)
