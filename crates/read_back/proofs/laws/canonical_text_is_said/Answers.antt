use Rattle.read_back.proofs.said.Whole.{canonical_is_said}
use Rattle.read_back.proofs.laws.canonical_text_is_said.Goals as goal

pub returns : goal.returns
returns c = canonical_is_said c.expressions_are_said.ensures c.expressions_are_formed.ensures
