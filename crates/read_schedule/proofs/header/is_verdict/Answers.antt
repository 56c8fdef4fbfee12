use Rattle.std.proofs.Common.{◌∙◌}
use Rattle.textline.specs.Lines.{words_of}
use Rattle.read_schedule.proofs.whole.Heads.{no_verdict_word}
use Rattle.read_schedule.proofs.header.is_verdict.Goals as goal

pub returns : goal.returns
returns c =
    no_verdict_word (words_of c.args.line.now)
    (λ vs e. c.if-take.ensures.1 vs (c.of-words.ensures ∙ e))
    (λ vs e. c.if-take-2.ensures.1 vs (c.if-take.ensures.0 ∙ c.of-words.ensures ∙ e))
    (λ vs e. c.if-take-3.ensures.1 vs (c.if-take-2.ensures.0 ∙ c.if-take.ensures.0 ∙ c.of-words.ensures ∙ e))
