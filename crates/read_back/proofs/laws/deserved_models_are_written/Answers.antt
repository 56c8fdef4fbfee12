use Rattle.read_back.proofs.written.Texts.{deserved_are_written}
use Rattle.read_back.proofs.laws.deserved_models_are_written.Goals as goal

pub returns : goal.returns
returns c = deserved_are_written c.statements_keep_models_valid.ensures.statements c.named_first_is_sound.ensures.valid c.answer_is_determined.ensures.shaped
