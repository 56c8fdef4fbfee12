use Rattle.std.proofs.Common.{arith}
use Rattle.cpo_text.specs.code.Lexing.{tokens_from}
use Rattle.cpo_text.proofs.pieces.Answered.{refused, has_tokens}
use Rattle.cpo_text.proofs.whole.read_text.Goals as goal

pub returns-in-Err : goal.returns-in-Err
returns-in-Err c = let e = c.in-Err.ensures in refused _ _ (omega arith) e.err.0 e.err.1 e.err.2

pub returns-in-Ok-statements : goal.returns-in-Ok-statements
returns-in-Ok-statements c =
    let e = c.in-Ok.ensures in
    record { short = omega arith; tokens = tokens_from 0 c.args.text.now; are = has_tokens _ e.ok; readings = c.in-Ok-statements.ensures }
