use Rattle.std.proofs.Common.{◌≡◌, false, drop, sym, ap, ◌∙◌}
use Rattle.cpo_text.specs.Tokens.{begins}
use Rattle.cpo_text.proofs.pieces.Closing.{close_turn}
use Rattle.cpo_text.proofs.piece.close_len.Goals as goal

pub loop-i-preserved : goal.loop-i-preserved
loop-i-preserved c =
    let other : begins 42 47 (drop c.loop-i.i c.args.bytes.now) ≡ false = ap (begins 42 47) (sym c.split_at.ensures.back) ∙ sym c.if-ends_comment.ensures in
    sym (close_turn c.args.bytes.now c.loop-i.i 0 c.loop-i-test.true other) ∙ c.loop-i.invariant
