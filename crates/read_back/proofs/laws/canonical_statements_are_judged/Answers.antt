use Rattle.read_back.proofs.judge.Whole.{canonical_is_judged}
use Rattle.read_back.proofs.laws.canonical_statements_are_judged.Goals as goal

pub returns : goal.returns
returns c = canonical_is_judged c.expressions_return.ensures.expressions c.expressions_return.ensures.factors c.expressions_return.ensures.intervals c.named_first_is_sound.ensures.nothing
