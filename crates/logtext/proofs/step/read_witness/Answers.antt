use Rattle.std.proofs.Common.{◌∷◌, ap, sym, ◌∙◌}
use Rattle.refute_basic.specs.Witness.{is_valid}
use Rattle.logtext.proofs.Witnesses.{no_word, seq_fails}
use Rattle.logtext.proofs.step.read_witness.Goals as goal

pub returns-in_default : goal.returns-in_default
returns-in_default g c = λ v fit e. no_word g.W.Numbers.numbers g.W.Numbers.is_valid v fit (sym c.in_default.ensures.0 ∙ e)

pub returns-in-Err-read_kind-2 : goal.returns-in-Err-read_kind-2
returns-in-Err-read_kind-2 g c =
    seq_fails g.W.Numbers.numbers g.W.Numbers.is_valid c.args.words.now c.next.new.self c.in-Some-seq_place.place c.in-Err-read_kind-2.fault c.in-Some-seq_place.ensures.0
    (c.in-Some.ensures ∙ ap (λ w. w ∷ c.next.new.self) c.in-Some-seq_place.ensures.1) c.in-Err-read_kind-2.ensures
