use Rattle.std.proofs.Common.{sym}
use Rattle.cpo_text.proofs.pieces.Gaps.{no_gap}
use Rattle.cpo_text.proofs.piece.gap_from.Goals as goal

pub returns-else-first-eq47 : goal.returns-else-first-eq47
returns-else-first-eq47 c = sym (no_gap c.args.first c.args.rest.now (sym c.if-is_blank.ensures) c.if-first-eq47.false)
