use Rattle.std.proofs.Common.{sym, ap, ◌∙◌}
use Rattle.std.specs.Option.{option_copied}
use Rattle.textline.specs.Words.{words_left}
use Rattle.textline.proofs.Front.{one_word, first_word}
use Rattle.textline.proofs.words.Words.next.Goals as goal

pub returns-in-None : goal.returns-in-None
returns-in-None c =
    sym c.self.view_is ∙ ap (λ o. words_left (option_copied o)) c.in_ok-rest.was ∙ one_word c.in_ok-rest.rest.now (sym c.in-None.ensures)

pub returns-in-Some : goal.returns-in-Some
returns-in-Some c =
    let first = first_word c.in_ok-rest.rest.now c.in-Some.at (sym c.in-Some.ensures) in
    let whole = sym c.self.view_is ∙ ap (λ o. words_left (option_copied o)) c.in_ok-rest.was in
    let front = c.split_at.ensures.front in
    let behind = c.split_at-in-Some.ensures.back in
    cc
