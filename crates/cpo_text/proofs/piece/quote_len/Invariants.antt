use Rattle.std.proofs.Common.{◌≡◌, ◌+◌, drop, option_map}
use Rattle.cpo_text.specs.code.Lexing.{quote_len}
use Rattle.cpo_text.proofs.piece.quote_len.Given as goal

abbrev pub invariant-loop-i : goal.invariant-loop-i
invariant-loop-i l = option_map (λ n. l.i + n) (quote_len (drop l.i l.bytes)) ≡ quote_len l.bytes
