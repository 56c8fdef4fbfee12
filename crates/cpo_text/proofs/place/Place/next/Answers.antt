use Rattle.std.proofs.Common.{sym, ◌∙◌}
use Rattle.cpo_text.specs.code.Places.{left}
use Rattle.cpo_text.proofs.pieces.Steps.{no_tokens, said_step}
use Rattle.cpo_text.proofs.place.Place.next.Goals as goal

pub returns-in_err-piece-clause-tokens : goal.returns-in_err-piece-clause-tokens
unfolding left
returns-in_err-piece-clause-tokens c =
    let none = sym c.in_err-piece.was ∙ c.piece_at.ensures in
    rw c.from_residual.ensures (sym c.offset-at.ensures.same ∙ no_tokens c.offset-at.result c.args.self.text.now _ c.split_at.ensures.back none)

pub returns-clause-tokens : goal.returns-clause-tokens
unfolding left
returns-clause-tokens c = sym c.offset-at.ensures.same ∙ said_step c.offset-at.result c.args.self.text.now _ _ _ _ c.in_ok-word.word c.split_at.ensures.back c.in_ok-piece.ensures c.split_at-2.ensures.front c.in_ok-word.ensures
