use Rattle.read_back.proofs.Back.{reads_back}
use Rattle.read_back.proofs.laws.canonical_text_reads_back.Goals as goal

pub returns : goal.returns
returns c = reads_back c.deserved_models_are_written.ensures c.canonical_text_is_said.ensures c.said_text_is_read.ensures c.canonical_statements_are_judged.ensures
