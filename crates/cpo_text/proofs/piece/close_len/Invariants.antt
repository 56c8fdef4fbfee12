use Rattle.std.proofs.Common.{◌≡◌, ◌+◌, drop, option_map}
use Rattle.cpo_text.specs.code.Lexing.{close_len}
use Rattle.cpo_text.proofs.piece.close_len.Given as goal

abbrev pub invariant-loop-i : goal.invariant-loop-i
invariant-loop-i l = option_map (λ n. l.i + n) (close_len (drop l.i l.bytes)) ≡ close_len l.bytes
