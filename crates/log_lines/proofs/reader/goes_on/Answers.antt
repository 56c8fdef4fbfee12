use Rattle.std.proofs.Common.{not, ◌∙◌, sym, ap}
use Rattle.log_lines.proofs.Fronts.{still_open}
use Rattle.log_lines.proofs.reader.goes_on.Goals as goal

pub returns : goal.returns
returns c =
    λ none. still_open c.args.rest.now c.split_at.result.1.now c.args.searched c.memchr.result c.requires.plain (sym c.split_at.ensures.back) c.memchr.ensures (ap not (c.is_none.ensures ∙ ap not none)) c.if-rest-ge-LINE_LIMIT.false
