use Rattle.cpo_elab.proofs.judging.Asking.{models_say_their_texts}
use Rattle.cpo_elab.proofs.judging.Determined.{ReadingIsDetermined, at_most_one}
use Rattle.cpo_elab.proofs.judging.OnlyWords.{only_words_count}
use Rattle.cpo_elab.proofs.judging.Spelt.{texts_are_shaped}
use Rattle.cpo_elab.proofs.judging.Told.{only_told_count}
use Rattle.cpo_elab.proofs.judging.Total.{some_answer}
use Rattle.cpo_elab.proofs.laws.answer_is_determined.Goals as goal

pub returns : goal.returns
returns c =
    let told = c.reading_is_determined.ensures in
    let laws : ReadingIsDetermined = record { tokens = told.tokens; bad_byte = told.bad_byte; not_both = told.not_both; statements = told.statements } in
    record { one = at_most_one laws; words = only_words_count laws; told = only_told_count; some = some_answer told.every_text told.grammar; shaped = texts_are_shaped; models = models_say_their_texts laws }
