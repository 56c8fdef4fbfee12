use Rattle.generated_models.proofs.deserving.Deserved.{generated_deserve}
use Rattle.generated_models.proofs.laws.generated_texts_deserve.Goals as goal

pub returns : goal.returns
returns c = generated_deserve c.said_text_is_read.ensures c.canonical_statements_are_judged.ensures c.shops_are_written.ensures c.shops_are_said.ensures c.shops_are_judged.ensures
