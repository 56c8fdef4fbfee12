use Rattle.std.proofs.Common.{sym, ap, ◌∙◌}
use Rattle.std.specs.Option.{option_copied}
use Rattle.textline.specs.Words.{words_left}
use Rattle.textline.proofs.Front.{some_word}
use Rattle.textline.proofs.words.Words.is_done.Goals as goal

pub returns-in-Some : goal.returns-in-Some
returns-in-Some c = λ none. some_word c.in-Some.field-0.now (ap (λ o. words_left (option_copied o)) (sym c.in-Some.is) ∙ c.self.view_is ∙ none)
